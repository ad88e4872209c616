use Rattle.build_workers.proofs.Stepping.{step_failed, step_stopped}
use Rattle.build_workers.proofs.working.work_or_stop.Goals as goal

pub returns-in-Err-NoMemory-clause-step : goal.returns-in-Err-NoMemory-clause-step
returns-in-Err-NoMemory-clause-step g c = step_stopped (step_failed c.work_to_the_end.ensures.step) c.stop_all.ensures.moves c.stop_all.ensures.closed
