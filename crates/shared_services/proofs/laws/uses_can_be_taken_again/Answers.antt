use Rattle.std.proofs.Common.{◌∙◌, ap}
use Rattle.resource_lock.specs.StateView.{Holding}
use Rattle.shared_services.proofs.laws.uses_can_be_taken_again.Goals as goal

pub returns-clause-kept : goal.returns-clause-kept
returns-clause-kept c = λ old new rests same. record {
  locks = same.locks ∙ rests.locks;
  claimed = same.claimed ∙ rests.claimed;
  holding = (λ i. record {
    lease = (same.lease ∙ ap (λ (h : Holding). h.lease) rests.holding) i;
    parked = (same.parked ∙ ap (λ (h : Holding). h.parked) rests.holding) i;
    blocked = (same.blocked ∙ ap (λ (h : Holding). h.blocked) rests.holding) i;
  });
}

pub returns-clause-given_back : goal.returns-clause-given_back
returns-clause-given_back c = λ maxima asked old taken new rests took given. record {
  locks = given.locks;
  claimed = given.claimed ∙ took.shown.claimed;
  holding = (λ i. record {
    lease = given.lease i;
    parked = (given.parked ∙ took.shown.parked) i;
    blocked = (given.blocked ∙ (took.shown.blocked ∙ ap (λ (h : Holding). h.blocked) rests.holding)) i;
  });
}
