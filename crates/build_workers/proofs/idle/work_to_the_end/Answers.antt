use Rattle.build_workers.specs.Choices.{HasBegun}
use Rattle.build_workers.proofs.lemmas.Results.{if_ok}
use Rattle.build_workers.proofs.Stepping.{step_any, step_failed, step_ok, step_same, step_then}
use Rattle.build_workers.proofs.idle.work_to_the_end.Goals as goal

pub loop-init : goal.loop-init
loop-init g c = (tt, tt, step_any c.choose-begun.result (step_same c.choose-begun.ensures.step.of), c.choose-begun.ensures.begun)

pub loop-preserved : goal.loop-preserved
loop-preserved g c =
    let inv = c.loop.invariant in
    let part = c.carry_out-begun.ensures in (tt, tt, step_then (step_ok c.loop.begun c.in-Ok.next c.in-Ok.is inv.2) part.step, part.begun)

pub carry_out-begun-requires-clause-begun : goal.carry_out-begun-requires-clause-begun
carry_out-begun-requires-clause-begun g c κs within = if_ok (HasBegun c.loop.worker.pass.sight) c.loop.begun c.in-Ok.next c.in-Ok.is c.loop.invariant.3

pub returns-in-Ok-Finish-clause-step : goal.returns-in-Ok-Finish-clause-step
returns-in-Ok-Finish-clause-step g c = step_then c.choose-begun.ensures.step (step_ok c.loop.begun _ c.in-Ok-Finish.is c.loop.invariant.2)

pub returns-in-Err-clause-step : goal.returns-in-Err-clause-step
returns-in-Err-clause-step g c = step_then c.choose-begun.ensures.step (step_failed c.loop.invariant.2)
