use Rattle.std.proofs.Common.{true}
use Rattle.build_workers.specs.Points.{RunsTask}
use Rattle.build_workers.specs.Steps.{Steps}
use Rattle.build_workers.proofs.tasks.run_actions.Given as goal

abbrev pub invariant-loop-action : goal.invariant-loop-action
invariant-loop-action g l = Steps l.site l.initial.worker l.worker true × RunsTask l.task l.worker.pass.sight
