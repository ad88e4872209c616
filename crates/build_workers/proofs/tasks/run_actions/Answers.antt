use Rattle.std.proofs.Common.{rules}
use Rattle.build_workers.proofs.Stepping.{step_err, step_ok, step_then}
use Rattle.build_workers.proofs.tasks.run_actions.Goals as goal

pub returns-then-not-branch-clause-step : goal.returns-then-not-branch-clause-step
returns-then-not-branch-clause-step g c = step_then c.loop-action.invariant.0 (step_ok c.run_action.result c.in_ok-run_action.field-0 c.in_ok-run_action.was c.run_action.ensures.step)

pub loop-action-preserved : goal.loop-action-preserved
loop-action-preserved g c =
    let run = c.run_action.ensures in (
      step_then c.loop-action.invariant.0 (step_ok c.run_action.result c.in_ok-run_action.field-0 c.in_ok-run_action.was run.step),
      run.goes_on (search rules),
    )

pub returns-in_err-run_action-clause-step : goal.returns-in_err-run_action-clause-step
returns-in_err-run_action-clause-step g c = step_err c.from_residual.result c.from_residual.ensures.0 (step_then c.loop-action.invariant.0 c.run_action.ensures.step)
