use Rattle.std.proofs.Common.{◌∙◌, subst}
use Rattle.planned_work.specs.Next.{NextLeaves, had_hold}
use Rattle.planned_work.specs.declared.workers.PlanWorker.{PlanWorker}
use Rattle.wakhurmi_c.specs.PlannedCalls.{TellsWork}
use Rattle.wakhurmi_c.proofs.PlannedTold.{next_told}
use Rattle.wakhurmi_c.proofs.planned_calls.wakhurmi_c_next.Goals as goal

pub returns-clause-told : goal.returns-clause-told
returns-clause-told c = λ full.
    next_told c.args.handle.now.held.worker c.of.result.held.worker c.deref_mut.result.now c.try_next-next.new.self (c.deref_mut.ensures.value ∙ c.take-worker.ensures.worker) c.of.ensures.worker had_hold (NextLeaves)
    c.try_next-next.result.0 c.try_next-next.result.1 c.tell-told.new.work c.tell-told.result c.try_next-next.ensures.left c.try_next-next.ensures.wakes
    (subst (λ (w : PlanWorker). TellsWork w.pass.sight.seen.graph c.tell-told.new.work c.try_next-next.result.0) c.deref.ensures c.tell-told.ensures.told) c.tell-told.ensures.answer c.tell-told.ensures.wakes
