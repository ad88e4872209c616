use Rattle.std.proofs.Common.{take}
use Rattle.ready_work.proofs.Counting.{Lowered}
use Rattle.ready_work.proofs.dependency_counts.lower.Given as goal

-- the tasks before this one were counted
abbrev pub invariant-loop-task : goal.invariant-loop-task
invariant-loop-task l = Lowered (take l.task-index l.tasks) l.initial.counts.items l.counts.items
