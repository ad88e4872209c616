-- The state of a graph, as contracts see it, and words to read it by.
use Rattle.std.specs.Prelude.{ℕ, ◌<◌, length, ◌==◌, Bool, true, false, not, ◌&&◌, ◌||◌, List, [], ◌∷◌, Option, None, Some}
use Rattle.std.specs.Prelude.{count_by, is_none, slice_index_or}
use Rattle.std.specs.List.{list_any}
use Rattle.resource_lock.specs.declared.ids.LockId.{LockId}
use Rattle.resource_lock.specs.declared.ids.WorkerId.{WorkerId}
use Rattle.resource_lock.specs.declared.marks.Mark.{Mark}
use Rattle.resource_lock.specs.declared.marks.Mark.TheVariants.{Waiting, Running}
use Rattle.resource_lock.specs.declared.marks.MarkId.{MarkId}
use Rattle.resource_lock.specs.declared.marks.MarkId.TheVariants.{Task as TaskOf, Action as ActionOf, Unit as UnitOf}

-- what a worker has: a lease or none, the locks that it has parked, the last one last, and whether it is blocked
pub record Holding : Type 0 where
  pub lease : Bool
  pub parked : List LockId
  pub blocked : Bool

-- how many leases may be out, the all-projects lock or none, each lock's owner, what each worker has, and each mark
pub record StateView : Type 0 where
  pub max_leases : ℕ
  pub all : Option LockId
  pub owners : List (Option WorkerId)
  pub holdings : List Holding
  pub tasks : List Mark
  pub actions : List Mark
  pub units : List Mark

abbrev pub empty_holding : Holding
empty_holding = record { lease = false; parked = []; blocked = false }

-- what a worker has
abbrev pub holding_of : StateView → WorkerId → Holding
holding_of s w = slice_index_or s.holdings w.0 empty_holding

-- the worker that owns a lock
abbrev pub owner_of : StateView → LockId → Option WorkerId
owner_of s l = slice_index_or s.owners l.0 None

-- whether an owner is this worker
abbrev pub is_owner : Option WorkerId → WorkerId → Bool
is_owner None w = false
is_owner (Some v) w = v.0 == w.0

-- whether a worker owns a lock
abbrev pub owns : StateView → WorkerId → LockId → Bool
owns s w l = is_owner (owner_of s l) w

-- whether an owner is another worker
abbrev pub is_other : Option WorkerId → WorkerId → Bool
is_other None w = false
is_other (Some v) w = not (v.0 == w.0)

-- whether a lock is the all-projects lock
abbrev pub names_lock : Option LockId → LockId → Bool
names_lock None l = false
names_lock (Some k) l = k.0 == l.0

abbrev pub is_all : StateView → LockId → Bool
is_all s l = names_lock s.all l

-- two locks conflict where they are the same or one of them is the all-projects lock
abbrev pub conflict : StateView → LockId → LockId → Bool
conflict s k l = k.0 == l.0 || is_all s k || is_all s l

-- the owner of the all-projects lock
abbrev pub owner_if : StateView → Option LockId → Option WorkerId
owner_if s None = None
owner_if s (Some k) = owner_of s k

abbrev pub all_owner : StateView → Option WorkerId
all_owner s = owner_if s s.all

-- Whether another worker owns a lock that conflicts with this one: the lock, or the all-projects lock, or any lock where this one
-- is the all-projects lock.
abbrev pub kept_from : StateView → WorkerId → LockId → Bool
kept_from s w l = is_other (owner_of s l) w || is_other (all_owner s) w || (is_all s l && list_any (λ o. is_other o w) s.owners)

-- whether somebody owns a lock
abbrev pub is_owned : Option WorkerId → Bool
is_owned o = not (is_none o)

-- Whether somebody owns a lock that conflicts with this one.
abbrev pub is_taken : StateView → LockId → Bool
is_taken s l = is_owned (owner_of s l) || is_owned (all_owner s) || (is_all s l && list_any is_owned s.owners)

-- how many leases are out
abbrev pub leases_out : StateView → ℕ
leases_out s = count_by (λ h. h.lease) s.holdings

abbrev pub mark_of : StateView → MarkId → Mark
mark_of s (TaskOf t) = slice_index_or s.tasks t Waiting
mark_of s (ActionOf a) = slice_index_or s.actions a Waiting
mark_of s (UnitOf u) = slice_index_or s.units u Waiting

-- whether a lock stands in a list
abbrev pub stands_in : LockId → List LockId → Bool
stands_in l locks = list_any (λ k. k.0 == l.0) locks

-- whether each lock of a list stands in it once
abbrev pub each_once : List LockId → Bool
each_once [] = true
each_once (l ∷ locks) = not (stands_in l locks) && each_once locks

-- whether a worker has parked a lock
abbrev pub has_parked : StateView → WorkerId → LockId → Bool
has_parked s w l = stands_in l (holding_of s w).parked

-- the number is a worker's, a lock's, a mark's of the state
abbrev pub IsWorkerOf : StateView → WorkerId → Type 0
IsWorkerOf s w = w.0 < length s.holdings

abbrev pub IsLockOf : StateView → LockId → Type 0
IsLockOf s l = l.0 < length s.owners

abbrev pub IsMarkOf : StateView → MarkId → Type 0
IsMarkOf s (TaskOf t) = t < length s.tasks
IsMarkOf s (ActionOf a) = a < length s.actions
IsMarkOf s (UnitOf u) = u < length s.units

-- a mark that is Running by the worker
abbrev pub runs_by : WorkerId → Mark → Bool
runs_by w (Running v) = v.0 == w.0
runs_by w _ = false

abbrev pub runs_task : StateView → WorkerId → Bool
runs_task s w = list_any (runs_by w) s.tasks

abbrev pub runs_unit : StateView → WorkerId → Bool
runs_unit s w = list_any (runs_by w) s.units

-- w waits for the items of an action
abbrev pub is_parked : StateView → WorkerId → Bool
is_parked s w = list_any (runs_by w) s.actions

abbrev pub runs_any : StateView → WorkerId → Bool
runs_any s w = runs_task s w || is_parked s w || runs_unit s w

abbrev pub owns_any : StateView → WorkerId → Bool
owns_any s w = list_any (λ o. is_owner o w) s.owners

abbrev pub is_idle : StateView → WorkerId → Bool
is_idle s w = not (holding_of s w).blocked && not (holding_of s w).lease && not (owns_any s w) && not (runs_any s w)
