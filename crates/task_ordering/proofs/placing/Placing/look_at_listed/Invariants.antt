use Rattle.std.proofs.Common.{◌≡◌, drop}
use Rattle.ready_work.specs.Rank.{lists_of}
use Rattle.task_ordering.specs.Placing.{IsSoundPlacing, AreSettledOrListed}
use Rattle.task_ordering.proofs.placing.Placing.look_at_listed.Given as goal

abbrev pub invariant-loop-task : goal.invariant-loop-task
invariant-loop-task l = record {
  sound : IsSoundPlacing l.to_run (lists_of l.befores) l.self;
  settled : AreSettledOrListed l.to_run (lists_of l.befores) l.self (drop l.task-index l.list);
  placed : l.self.placed.items ≡ l.initial.self.placed.items;
}
