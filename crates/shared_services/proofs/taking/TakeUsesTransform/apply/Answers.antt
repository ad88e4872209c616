use Rattle.std.proofs.Common.{◌≡◌, ◌<◌, ◌∙◌, ℕ, None, length, take, get_or, inl, inr, sym, subst, arith}
use Rattle.std.proofs.lemmas.Bool.{false≢true}
use Rattle.resource_lock.specs.StateView.{StateView}
use Rattle.shared_services.specs.Services.{AreLowestFree, no_lock}
use Rattle.shared_services.specs.Takings.{HasTheLocks}
use Rattle.shared_services.proofs.Chosen.{HasNothing, acquired_free, each_rises, few_asked, free_each, may_take, nothing_of, one_of_each, short_of_leases, within_graph}
use Rattle.shared_services.proofs.taking.TakeUsesTransform.apply.Goals as goal
use Rattle.shared_services.proofs.taking.TakeUsesTransform.apply.Goals.{After-apply}

pub choose-requires-clause-room : goal.choose-requires-clause-room
choose-requires-clause-room c = let few = few_asked c.args.self.now.table.now c.args.self.now.asked.now c.args.self.now.services in omega (arith, few, c.has_the_locks.ensures.fit.few)

chosen : (c : After-apply) → AreLowestFree c.args.self.now.table.now c.args.work.now.state c.args.self.now.asked.now (take (length c.args.self.now.asked.now) c.choose.new.chosen)
chosen c = subst (λ (s : StateView). AreLowestFree c.args.self.now.table.now s c.args.self.now.asked.now (take (length c.args.self.now.asked.now) c.choose.new.chosen)) c.state.ensures.value (c.choose.ensures.chosen c.if-not-choose.false)

has : (c : After-apply) → HasNothing c.args.work.now.state c.args.work.now.worker
has c = nothing_of c.args.work.now.state c.args.work.now.worker (sym c.has_nothing.ensures ∙ c.if-not-has_nothing.false)

the_locks : (c : After-apply) → HasTheLocks c.args.self.now.table.now c.args.work.now.graph
the_locks c = subst (HasTheLocks c.args.self.now.table.now) c.graph.ensures.value (c.has_the_locks.ensures.answer.0 c.if-not-has_the_locks.false)

-- so the state has no all-projects lock
no_all : (c : After-apply) → c.args.work.now.state.all ≡ None
no_all c = c.graph.ensures.belongs.all ∙ (the_locks c).1

pub invariant_of-acquire : goal.invariant_of-acquire
invariant_of-acquire c = record { rising = each_rises c.args.self.now.table.now c.args.self.now.asked.now _ c.args.self.now.services (one_of_each (c.choose.ensures.chosen c.if-not-choose.false)) }

pub returns-clause-makes : goal.returns-clause-makes
returns-clause-makes c = λ finished. record {
  locks = take (length c.args.self.now.asked.now) c.choose.new.chosen;
  lowest = chosen c;
  made = c.apply.ensures.makes finished ∙ acquired_free c.args.work.now.state c.args.work.now.worker _ (free_each (chosen c)) (has c).lease;
}

pub returns-clause-failed : goal.returns-clause-failed
returns-clause-failed c = λ failed. let cause = c.apply.ensures.failed failed in ((cause.0.0, inr (short_of_leases c.args.work.now.worker (no_all c) (has c) (chosen c) cause.0.1)), cause.1)

pub returns-clause-retry : goal.returns-clause-retry
returns-clause-retry c = λ retry.
    let table = c.args.self.now.table.now in
    let asked = c.args.self.now.asked.now in
    let low : (i : ℕ) → i < length (take (length asked) c.choose.new.chosen) → (get_or (take (length asked) c.choose.new.chosen) i no_lock).0 < c.args.work.now.graph.locks =
    within_graph table asked (take (length asked) c.choose.new.chosen) c.args.work.now.graph.locks ((the_locks c).0) c.args.self.now.services (one_of_each (chosen c)) in
    elim (c.apply.ensures.retry retry) [
      | inl kept ↦ absurd (false≢true (sym kept ∙ may_take c.args.work.now.graph c.args.work.now.state c.args.work.now.worker (take (length asked) c.choose.new.chosen) (has c) low))
      | inr short ↦ inr (short.0, inr (short_of_leases c.args.work.now.worker (no_all c) (has c) (chosen c) short.1))
    ]
