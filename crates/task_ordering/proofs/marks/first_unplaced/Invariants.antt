use Rattle.std.proofs.Common.{◌<◌, ℕ}
use Rattle.task_ordering.specs.Marks.{IsMarked}
use Rattle.task_ordering.proofs.marks.first_unplaced.Given as goal

abbrev pub invariant-loop-task : goal.invariant-loop-task
invariant-loop-task l = (t : ℕ) → t < l.task → IsMarked l.to_run t → IsMarked l.placed t
