use Rattle.std.proofs.Common.{take}
use Rattle.ready_work.proofs.Counting.{Raised}
use Rattle.ready_work.proofs.dependency_counts.raise.Given as goal

-- the tasks before this one were counted
abbrev pub invariant-loop-task : goal.invariant-loop-task
invariant-loop-task l = Raised (take l.task-index l.tasks) l.initial.counts.items l.counts.items
