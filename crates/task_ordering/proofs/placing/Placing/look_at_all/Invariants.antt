use Rattle.ready_work.specs.Rank.{lists_of}
use Rattle.task_ordering.specs.Placing.{IsSoundPlacing, AreSettled}
use Rattle.task_ordering.proofs.placing.Placing.look_at_all.Given as goal

abbrev pub invariant-loop-task : goal.invariant-loop-task
invariant-loop-task l = IsSoundPlacing l.to_run (lists_of l.befores) l.self × AreSettled l.task l.to_run (lists_of l.befores) l.self
