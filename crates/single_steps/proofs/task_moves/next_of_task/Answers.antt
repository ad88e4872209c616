use Rattle.std.proofs.Common.{◌∙◌, ap, inl, inr, sym}
use Rattle.resource_lock.specs.StateView.{StateView, holding_of}
use Rattle.single_steps.proofs.TaskMoves.{comes_next}
use Rattle.single_steps.proofs.task_moves.next_of_task.Goals as goal

-- without a lease
pub returns-then-not-has_lease : goal.returns-then-not-has_lease
returns-then-not-has_lease c =
    inl (sym (ap (λ (s : StateView). (holding_of s c.args.worker).lease) c.state.ensures.value) ∙ (sym c.has_lease.ensures ∙ c.if-not-has_lease.true))

-- with a lease, and no action that can come next
pub returns-in-None : goal.returns-in-None
returns-in-None c = inr (sym c.first_to_come.ensures.first ∙ c.in-None.is)

pub returns-in-Some : goal.returns-in-Some
returns-in-Some c =
    let lease = sym (ap (λ (s : StateView). (holding_of s c.args.worker).lease) c.state.ensures.value) ∙ (sym c.has_lease.ensures ∙ c.if-not-has_lease.false) in
    comes_next c.args.book.now.graph c.args.worker c.args.book.now.state c.args.task c.in-Some.action c.come_with.result lease (sym c.first_to_come.ensures.first ∙ c.in-Some.is) c.come_with.ensures
