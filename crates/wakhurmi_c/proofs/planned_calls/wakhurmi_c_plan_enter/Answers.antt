use Rattle.std.proofs.Common.{◌∙◌}
use Rattle.planned_work.specs.Sections.{EnterLeaves}
use Rattle.wakhurmi_c.proofs.PlannedTold.{answer_told}
use Rattle.wakhurmi_c.proofs.planned_calls.wakhurmi_c_plan_enter.Goals as goal

pub returns-clause-told : goal.returns-clause-told
returns-clause-told c = λ full.
    answer_told c.args.handle.now.held.worker c.of.result.held.worker c.deref_mut.result.now c.enter-answer.new.self (c.deref_mut.ensures.value ∙ c.take-worker.ensures.worker) c.of.ensures.worker (EnterLeaves)
    c.enter-answer.result.0 c.enter-answer.result.1 c.of-3.result c.enter-answer.ensures.left c.enter-answer.ensures.wakes (c.of-3.ensures.answer ∙ c.of-2.ensures)
    (record { one = c.of-3.ensures.wakes.0; another = c.of-3.ensures.wakes.1; all = c.of-3.ensures.all.0; takers = c.of-3.ensures.all.1 })
