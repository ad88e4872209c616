-- What a worker's entry in a `State` stands for, and what a change of the worker leaves in it.
use Rattle.std.specs.Prelude.{ℕ, ◌≡◌, ◌+◌, ◌-◌, ◌<◌, ◌≤◌, ◌^◌, vec_len, vec_capacity, if◌then◌else◌}
use Rattle.resource_lock.specs.StateView.{Holding, runs_by}
use Rattle.resource_lock.specs.Change.{holding_after}
use Rattle.resource_lock.specs.declared.ids.WorkerId.{WorkerId}
use Rattle.resource_lock.specs.declared.marks.Mark.{Mark}
use Rattle.resource_lock.specs.declared.marks.MarkId.TheVariants.{Task as TaskOf, Action as ActionOf, Unit as UnitOf}
use Rattle.resource_lock.specs.declared.changes.Change.{Change}
use Rattle.resource_lock.specs.declared.changes.Change.TheVariants.{Lock, Unlock, Move, Park}
use Rattle.resource_lock.specs.declared.states.held.Counts.{Counts}
use Rattle.resource_lock.specs.declared.states.held.Held.{Held}

abbrev pub holding_from : Held → Holding
holding_from h = record { lease = h.lease; parked = h.parked.items; blocked = h.blocked }

-- how many of one mark run by the worker: one or none
abbrev pub runs : WorkerId → Mark → ℕ
runs w mark = if runs_by w mark then 1 else 0

-- how many marks run by the worker, where one of them is moved
abbrev pub recounted : ℕ → WorkerId → Mark → Mark → ℕ
recounted count w from to = count - runs w from + runs w to

abbrev pub counts_after : WorkerId → Counts → Change → Counts
counts_after w n (Lock l) = record n { locks = n.locks + 1 }
counts_after w n (Unlock l) = record n { locks = n.locks - 1 }
counts_after w n (Move (TaskOf t) from to) = record n { tasks = recounted n.tasks w from to }
counts_after w n (Move (ActionOf a) from to) = record n { actions = recounted n.actions w from to }
counts_after w n (Move (UnitOf u) from to) = record n { units = recounted n.units w from to }
counts_after w n _ = n

-- the count is neither too small nor too large for this
abbrev pub CanRecount : ℕ → WorkerId → Mark → Mark → Type 0
CanRecount count w from to = (runs w from ≤ count) × (recounted count w from to < 2 ^ 64)

-- an entry has room for a change
abbrev pub CanCount : WorkerId → Held → Change → Type 0
CanCount w h (Lock l) = h.counts.locks + 1 < 2 ^ 64
CanCount w h (Unlock l) = 1 ≤ h.counts.locks
CanCount w h (Move (TaskOf t) from to) = CanRecount h.counts.tasks w from to
CanCount w h (Move (ActionOf a) from to) = CanRecount h.counts.actions w from to
CanCount w h (Move (UnitOf u) from to) = CanRecount h.counts.units w from to
CanCount w h (Park l) = vec_len h.parked < vec_capacity h.parked
CanCount w h _ = Unit {0}

-- the entry after a change of the worker, which takes no memory
pub record IsAfter (w : WorkerId) (change : Change) (old new : Held) : Type 0 where
  pub holding : holding_from new ≡ holding_after (holding_from old) change
  pub counts : new.counts ≡ counts_after w old.counts change
  pub capacity : vec_capacity new.parked ≡ vec_capacity old.parked
