use Rattle.std.proofs.Common.{◌∙◌, subst}
use Rattle.planned_work.specs.Done.{DoneLeaves}
use Rattle.wakhurmi_c.specs.PlannedCalls.{TellsAnswer}
use Rattle.wakhurmi_c.proofs.PlannedTold.{answer_told}
use Rattle.wakhurmi_c.proofs.planned_calls.wakhurmi_c_done.Goals as goal

pub returns-clause-told : goal.returns-clause-told
returns-clause-told c = λ full.
    subst (λ gave. TellsAnswer c.of.result.held.worker.pass.sight c.of-3.result (DoneLeaves gave c.args.handle.now.held.worker.pass.sight c.of.result.held.worker.pass.sight)) c.gave_by.ensures
    (answer_told c.args.handle.now.held.worker c.of.result.held.worker c.deref_mut.result.now c.done-answer.new.self (c.deref_mut.ensures.value ∙ c.take-worker.ensures.worker) c.of.ensures.worker (DoneLeaves c.gave_by.result)
    c.done-answer.result.0 c.done-answer.result.1 c.of-3.result c.done-answer.ensures.left c.done-answer.ensures.wakes (c.of-3.ensures.answer ∙ c.of-2.ensures)
    (record { one = c.of-3.ensures.wakes.0; another = c.of-3.ensures.wakes.1; all = c.of-3.ensures.all.0; takers = c.of-3.ensures.all.1 }))
