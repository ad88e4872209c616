use Rattle.std.proofs.Common.{length}
use Rattle.ready_work.specs.Rank.{lists_of}
use Rattle.task_ordering.specs.Placing.{IsSoundPlacing, AreSettled, unplaced_count}
use Rattle.task_ordering.proofs.placing.Placing.of.Given as goal

abbrev pub invariant-loop-task : goal.invariant-loop-task
invariant-loop-task l = record {
  sound : IsSoundPlacing l.to_run (lists_of l.befores) l.placing;
  settled : AreSettled (length l.befores) l.to_run (lists_of l.befores) l.placing;
}

abbrev pub decreases-loop-task : goal.decreases-loop-task
decreases-loop-task l = unplaced_count l.placing
