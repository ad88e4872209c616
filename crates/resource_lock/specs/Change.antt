-- The table of changes: where each can be made, what it changes, and what undoes it.
use Rattle.std.specs.Prelude.{◌-◌, ◌==◌, nat_lt, Bool, true, false, not, ◌&&◌, List, [], ◌∷◌, ◌++◌, length, take, Option, None}
use Rattle.std.specs.Prelude.{Some, is_none, slice_get, slice_set}
use Rattle.resource_lock.specs.StateView.{StateView, Holding, holding_of, owner_of, owns, kept_from, leases_out, mark_of, has_parked, IsLockOf, IsMarkOf}
use Rattle.resource_lock.specs.declared.ids.LockId.{LockId}
use Rattle.resource_lock.specs.declared.ids.WorkerId.{WorkerId}
use Rattle.resource_lock.specs.declared.marks.Mark.{Mark}
use Rattle.resource_lock.specs.declared.marks.Mark.TheVariants.{Waiting, Queued, Running, Passed, Failed, Skipped}
use Rattle.resource_lock.specs.declared.marks.MarkId.{MarkId}
use Rattle.resource_lock.specs.declared.marks.MarkId.TheVariants.{Task as TaskOf, Action as ActionOf, Unit as UnitOf}
use Rattle.resource_lock.specs.declared.changes.Change.{Change}
use Rattle.resource_lock.specs.declared.changes.Change.TheVariants.{Lock, Unlock, Take, Give, Move, Park, Unpark, Enter, Leave}

-- whether two marks are the same
abbrev pub same_mark : Mark → Mark → Bool
same_mark Waiting Waiting = true
same_mark Queued Queued = true
same_mark (Running v) (Running w) = v.0 == w.0
same_mark Passed Passed = true
same_mark Failed Failed = true
same_mark Skipped Skipped = true
same_mark _ _ = false

-- a mark that is Running names this worker
abbrev pub names_only : Mark → WorkerId → Bool
names_only (Running v) w = v.0 == w.0
names_only _ w = true

-- whether a lock stands last in a list
abbrev pub is_lock : Option LockId → LockId → Bool
is_lock None l = false
is_lock (Some k) l = k.0 == l.0

abbrev pub stands_last : LockId → List LockId → Bool
stands_last l locks = is_lock (slice_get locks (length locks - 1)) l

-- a list without its last member
abbrev pub without_last : List LockId → List LockId
without_last locks = take (length locks - 1) locks

-- where worker w can make a change
abbrev pub can : StateView → WorkerId → Change → Bool
can s w (Lock l) = is_none (owner_of s l) && not (kept_from s w l) && not (has_parked s w l)
can s w (Unlock l) = owns s w l
can s w Take = not (holding_of s w).lease && not (holding_of s w).blocked && nat_lt (leases_out s) s.max_leases
can s w Give = (holding_of s w).lease
can s w (Move m from to) = same_mark (mark_of s m) from && not (same_mark from to) && names_only from w && names_only to w
can s w (Park l) = not (owns s w l) && not (has_parked s w l)
can s w (Unpark l) = stands_last l (holding_of s w).parked
can s w Enter = not (holding_of s w).blocked && not (holding_of s w).lease
can s w Leave = (holding_of s w).blocked

abbrev pub with_owner : StateView → LockId → Option WorkerId → StateView
with_owner s l owner = record s { owners = slice_set s.owners l.0 owner }

abbrev pub with_holding : StateView → WorkerId → Holding → StateView
with_holding s w holding = record s { holdings = slice_set s.holdings w.0 holding }

abbrev pub with_mark : StateView → MarkId → Mark → StateView
with_mark s (TaskOf t) mark = record s { tasks = slice_set s.tasks t mark }
with_mark s (ActionOf a) mark = record s { actions = slice_set s.actions a mark }
with_mark s (UnitOf u) mark = record s { units = slice_set s.units u mark }

-- what a change of the worker's own leaves in its holding
abbrev pub holding_after : Holding → Change → Holding
holding_after h Take = record h { lease = true }
holding_after h Give = record h { lease = false }
holding_after h (Park l) = record h { parked = h.parked ++ l ∷ [] }
holding_after h (Unpark l) = record h { parked = without_last h.parked }
holding_after h Enter = record h { blocked = true }
holding_after h Leave = record h { blocked = false }
holding_after h _ = h

-- the state that a change leaves
abbrev pub make : StateView → WorkerId → Change → StateView
make s w (Lock l) = with_owner s l (Some w)
make s w (Unlock l) = with_owner s l None
make s w (Move m from to) = with_mark s m to
make s w c = with_holding s w (holding_after (holding_of s w) c)

-- the change that undoes a change
abbrev pub inverse_of : Change → Change
inverse_of (Lock l) = Unlock l
inverse_of (Unlock l) = Lock l
inverse_of Take = Give
inverse_of Give = Take
inverse_of (Move m from to) = Move m to from
inverse_of (Park l) = Unpark l
inverse_of (Unpark l) = Park l
inverse_of Enter = Leave
inverse_of Leave = Enter

-- changes made in order
abbrev pub make_all : StateView → WorkerId → List Change → StateView
make_all s w [] = s
make_all s w (c ∷ cs) = make_all (make s w c) w cs

-- each change can be made in turn
abbrev pub can_all : StateView → WorkerId → List Change → Bool
can_all s w [] = true
can_all s w (c ∷ cs) = can s w c && can_all (make s w c) w cs

-- the numbers in a change are the state's
abbrev pub NamesOnly : StateView → Change → Type 0
NamesOnly s (Lock l) = IsLockOf s l
NamesOnly s (Unlock l) = IsLockOf s l
NamesOnly s (Park l) = IsLockOf s l
NamesOnly s (Unpark l) = IsLockOf s l
NamesOnly s (Move m from to) = IsMarkOf s m
NamesOnly s _ = Unit {0}
