use Rattle.std.proofs.Common.{length}
use Rattle.ready_work.specs.TaskSets.{AreSetsBelow, HasClosedLocks, HasTaskRoom}
use Rattle.ready_work.proofs.task_sets.TaskSets.fill.Given as goal

-- the tasks below this one were looked at, and no lock is free yet
abbrev pub invariant-loop-task : goal.invariant-loop-task
invariant-loop-task l = AreSetsBelow l.state l.task l.fn.self.unpassed l.fn.self.fallen l.self × HasTaskRoom (length l.state.tasks) l.self × HasClosedLocks l.graph l.self.startable
