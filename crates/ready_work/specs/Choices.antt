-- Which task can be skipped or started, and which unit or task hasn't ended.
use Rattle.std.specs.Prelude.{ℕ, ◌≡◌, ◌<◌, Bool, true, false, None, length}
use Rattle.std.specs.List.{list_any, list_all}
use Rattle.resource_lock.specs.Change.{same_mark}
use Rattle.resource_lock.specs.GraphView.{GraphView, task_of}
use Rattle.resource_lock.specs.StateView.{StateView, is_taken, mark_of, owner_of}
use Rattle.resource_lock.specs.declared.marks.Mark.TheVariants.{Queued, Waiting}
use Rattle.resource_lock.specs.declared.marks.MarkId.TheVariants.{Task as TaskOf, Unit as UnitOf}
use Rattle.resource_lock.specs.Marks.{has_passed, has_fallen, has_ended}

-- the unit hasn't ended
pub record IsOpenUnit (g : GraphView) (s : StateView) (u : ℕ) : Type 0 where
  pub within : u < g.units
  pub unended : has_ended (mark_of s (UnitOf u)) ≡ false

-- the unit is queued
pub record IsQueued (g : GraphView) (s : StateView) (u : ℕ) : Type 0 where
  pub within : u < g.units
  pub queued : mark_of s (UnitOf u) ≡ Queued

-- a unit is queued
abbrev pub has_queued : StateView → Bool
has_queued s = list_any (λ m. same_mark m Queued) s.units

-- it waits, and one that it comes after failed or was skipped
pub record CanSkip (g : GraphView) (s : StateView) (t : ℕ) : Type 0 where
  pub within : t < length g.tasks
  pub waits : mark_of s (TaskOf t) ≡ Waiting
  pub fallen : list_any (λ k. has_fallen (mark_of s (TaskOf k))) (task_of g t).after ≡ true

-- it waits, and each that it comes after has passed
pub record IsStartable (g : GraphView) (s : StateView) (t : ℕ) : Type 0 where
  pub within : t < length g.tasks
  pub waits : mark_of s (TaskOf t) ≡ Waiting
  pub passed : list_all (λ k. has_passed (mark_of s (TaskOf k))) (task_of g t).after ≡ true

-- nobody owns the lock
pub record IsFree (g : GraphView) (s : StateView) (l : ℕ) : Type 0 where
  pub within : l < g.locks
  pub free : owner_of s (record { 0 = l }) ≡ None

-- it waits, each that it comes after has passed, and nobody owns a lock that conflicts with its own
pub record CanStart (g : GraphView) (s : StateView) (t : ℕ) : Type 0 where
  pub within : t < length g.tasks
  pub waits : mark_of s (TaskOf t) ≡ Waiting
  pub passed : list_all (λ k. has_passed (mark_of s (TaskOf k))) (task_of g t).after ≡ true
  pub free : is_taken s (task_of g t).lock ≡ false

-- the task hasn't ended
pub record IsUnended (g : GraphView) (s : StateView) (t : ℕ) : Type 0 where
  pub within : t < length g.tasks
  pub unended : has_ended (mark_of s (TaskOf t)) ≡ false
