use Rattle.std.proofs.Common.{◌≡◌, false, Option, None, Some, refl, sym, ap, ◌∙◌}
use Rattle.std.specs.Option.{is_some}
use Rattle.std.proofs.lemmas.Bool.{true≢false}
use Rattle.std.proofs.lemmas.Option.{IfSome_then}
use Rattle.resource_lock.specs.StateView.{all_owner}
use Rattle.resource_lock.specs.declared.ids.WorkerId.{WorkerId}
use Rattle.ready_work.proofs.Sets.{none_then}
use Rattle.ready_work.proofs.Unowned.{lowest_but, lowest_to_start, none_but, none_to_start}
use Rattle.ready_work.proofs.ready_works.ReadyWork.first_to_start.Goals as goal

nobody : (o : Option WorkerId) → is_some o ≡ false → o ≡ None
nobody None h = refl
nobody (Some v) h = absurd (true≢false h)

pub returns-in-Some-clause-some : goal.returns-in-Some-clause-some
returns-in-Some-clause-some c = λ g is. IfSome_then c.first_but.result c.first_but.ensures.some (lowest_but g c.args.state.now c.args.self.now is (nobody (all_owner c.args.state.now) (ap is_some (sym c.all_owner.ensures) ∙ sym c.is_some.ensures ∙ c.if-is_some.false)) c.in-Some.lock (sym c.closed_lock.ensures ∙ c.in-Some.is))

pub returns-in-Some-clause-none : goal.returns-in-Some-clause-none
returns-in-Some-clause-none c = λ g is. none_then c.first_but.result (none_but g c.args.state.now c.args.self.now is c.in-Some.lock (sym c.closed_lock.ensures ∙ c.in-Some.is)) c.first_but.ensures.none

pub returns-in-None-clause-some : goal.returns-in-None-clause-some
returns-in-None-clause-some c = λ g is. IfSome_then c.first.result c.first.ensures.some (lowest_to_start g c.args.state.now c.args.self.now is (nobody (all_owner c.args.state.now) (ap is_some (sym c.all_owner.ensures) ∙ sym c.is_some.ensures ∙ c.if-is_some.false)) (sym c.closed_lock.ensures ∙ c.in-None.is))

pub returns-in-None-clause-none : goal.returns-in-None-clause-none
returns-in-None-clause-none c = λ g is. none_then c.first.result (none_to_start g c.args.state.now c.args.self.now is) c.first.ensures.none
