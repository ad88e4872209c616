use Rattle.std.proofs.Common.{◌∙◌, subst}
use Rattle.planned_work.specs.Done.{DoneNextLeaves, had_hold_closing}
use Rattle.planned_work.specs.declared.workers.PlanWorker.{PlanWorker}
use Rattle.wakhurmi_c.specs.PlannedCalls.{TellsNext, TellsWork}
use Rattle.wakhurmi_c.proofs.PlannedTold.{next_told}
use Rattle.wakhurmi_c.proofs.planned_calls.wakhurmi_c_done_next.Goals as goal

pub returns-clause-told : goal.returns-clause-told
returns-clause-told c = λ full.
    subst (λ gave. TellsNext had_hold_closing c.of.result.held.worker.pass.sight c.tell-told.new.work c.tell-told.result (DoneNextLeaves gave c.args.handle.now.held.worker.pass.sight c.of.result.held.worker.pass.sight)) c.gave_by.ensures
    (next_told c.args.handle.now.held.worker c.of.result.held.worker c.deref_mut.result.now c.done_next-next.new.self (c.deref_mut.ensures.value ∙ c.take-worker.ensures.worker) c.of.ensures.worker had_hold_closing (DoneNextLeaves c.gave_by.result)
    c.done_next-next.result.0 c.done_next-next.result.1 c.tell-told.new.work c.tell-told.result c.done_next-next.ensures.left c.done_next-next.ensures.wakes
    (subst (λ (w : PlanWorker). TellsWork w.pass.sight.seen.graph c.tell-told.new.work c.done_next-next.result.0) c.deref.ensures c.tell-told.ensures.told) c.tell-told.ensures.answer c.tell-told.ensures.wakes)
