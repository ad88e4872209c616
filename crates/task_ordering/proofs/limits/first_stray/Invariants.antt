use Rattle.std.proofs.Common.{◌<◌, ℕ}
use Rattle.task_ordering.specs.Refusals.{NamesTasks}
use Rattle.task_ordering.proofs.limits.first_stray.Given as goal

abbrev pub invariant-loop-task : goal.invariant-loop-task
invariant-loop-task l = (t : ℕ) → t < l.task → NamesTasks l.tasks t
