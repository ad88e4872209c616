use Rattle.std.proofs.Common.{ℕ, ◌<◌, length, get_or}
use Rattle.resource_lock.specs.GraphView.{no_task}
use Rattle.resource_lock.specs.Parts.{IsFitTask}
use Rattle.resource_lock.proofs.fitting.tasks_fit.Given as goal

abbrev pub invariant-loop-task : goal.invariant-loop-task
invariant-loop-task l = (t : ℕ) → t < l.task → IsFitTask l.locks (length l.tasks) (get_or l.tasks t no_task)
