use Rattle.build_workers.proofs.Stepping.{step_any, step_err, step_ok, step_then}
use Rattle.build_workers.proofs.tasks.run_task.Goals as goal

pub returns-in_err-run_actions-clause-step : goal.returns-in_err-run_actions-clause-step
returns-in_err-run_actions-clause-step g c = step_err c.from_residual.result c.from_residual.ensures.0 c.run_actions.ensures.step

pub returns-clause-step : goal.returns-clause-step
returns-clause-step g c =
    let ran = step_ok c.run_actions.result c.in_ok-run_actions.field-0 c.in_ok-run_actions.was c.run_actions.ensures.step in
    step_any c.end.result (step_then ran c.end.ensures.step)
