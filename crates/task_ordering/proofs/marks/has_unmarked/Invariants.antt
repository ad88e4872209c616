use Rattle.std.proofs.Common.{take}
use Rattle.std.specs.Prelude.{All}
use Rattle.task_ordering.specs.Marks.{IsMarked}
use Rattle.task_ordering.proofs.marks.has_unmarked.Given as goal

abbrev pub invariant-loop-task : goal.invariant-loop-task
invariant-loop-task l = All (IsMarked l.marks) (take l.task-index l.tasks)
