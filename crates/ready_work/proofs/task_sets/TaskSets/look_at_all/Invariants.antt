use Rattle.std.proofs.Common.{take}
use Rattle.ready_work.specs.Sets.{SameNumbers}
use Rattle.ready_work.specs.TaskSets.{IsSeen, LooksAt}
use Rattle.ready_work.proofs.task_sets.TaskSets.look_at_all.Given as goal

-- those before this one that are due were looked at, and the free locks stay
abbrev pub invariant-loop-task : goal.invariant-loop-task
invariant-loop-task l = LooksAt l.state (IsSeen l.is_each l.fn.self.unpassed (take l.task-index l.tasks)) l.fn.self l.self × SameNumbers l.fn.self.startable.free l.self.startable.free
