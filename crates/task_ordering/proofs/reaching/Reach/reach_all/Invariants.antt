use Rattle.std.proofs.Common.{take}
use Rattle.task_ordering.specs.Reach.{Reaches}
use Rattle.task_ordering.proofs.reaching.Reach.reach_all.Given as goal

abbrev pub invariant-loop-task : goal.invariant-loop-task
invariant-loop-task l = Reaches l.initial.self l.self (take l.task-index l.tasks)
