use Rattle.ready_work.specs.Rank.{lists_of}
use Rattle.task_ordering.proofs.Pairs.{TellsBelow}
use Rattle.task_ordering.proofs.befores.befores_of.Given as goal

abbrev pub invariant-loop-task : goal.invariant-loop-task
invariant-loop-task l = TellsBelow l.tasks l.to_run l.task (lists_of l.befores.items)
