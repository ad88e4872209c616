use Rattle.std.proofs.Common.{◌≡◌, ◌≤◌, map}
use Rattle.ready_work.specs.Choices.{IsFree}
use Rattle.ready_work.specs.NumberSetView.{room_of}
use Rattle.ready_work.specs.Sets.{IsSetBelow, SameNumbers}
use Rattle.ready_work.proofs.startable_tasks.StartableTasks.put_locks.Given as goal

-- the locks below this one were looked at
abbrev pub invariant-loop-lock : goal.invariant-loop-lock
invariant-loop-lock l = (l.self.locks ≡ map (λ t. t.lock.0) l.graph.tasks) × (l.graph.locks ≤ room_of l.self.free) × SameNumbers l.fn.self.tasks l.self.tasks × IsSetBelow (IsFree l.graph l.state) l.lock l.self.free
