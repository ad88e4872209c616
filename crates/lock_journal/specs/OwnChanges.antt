-- What a change of a worker's own leaves of the locks that it owns and of the marks that it runs.
use Rattle.std.specs.Prelude.{nat_lt, Bool, true, false, List, [], ◌∷◌, if◌then◌else◌}
use Rattle.resource_lock.specs.StateView.{runs_by}
use Rattle.resource_lock.specs.declared.changes.Change.{Change}
use Rattle.resource_lock.specs.declared.changes.Change.TheVariants.{Lock, Unlock, Move}
use Rattle.resource_lock.specs.declared.ids.LockId.{LockId}
use Rattle.resource_lock.specs.declared.ids.WorkerId.{WorkerId}
use Rattle.resource_lock.specs.declared.marks.MarkId.{MarkId}
use Rattle.resource_lock.specs.declared.marks.MarkId.TheVariants.{Task as TaskOf, Action as ActionOf, Unit as UnitOf}

-- a rising list with one more, at its place
abbrev pub with_member : {X : Type 0} → (X → X → Bool) → X → List X → List X
with_member before x [] = x ∷ []
with_member before x (y ∷ ys) = if before y x then y ∷ with_member before x ys else x ∷ y ∷ ys

-- a rising list without one of its own
abbrev pub without_member : {X : Type 0} → (X → X → Bool) → X → List X → List X
without_member before x [] = []
without_member before x (y ∷ ys) =
    if before y x then y ∷ without_member before x ys
    else if before x y then y ∷ ys
    else ys

-- locks rise by number
abbrev pub lock_before : LockId → LockId → Bool
lock_before k l = nat_lt k.0 l.0

-- tasks come before actions, and actions before units; those of one kind rise by number
abbrev pub mark_before : MarkId → MarkId → Bool
mark_before (TaskOf t) (TaskOf n) = nat_lt t n
mark_before (TaskOf t) (ActionOf n) = true
mark_before (TaskOf t) (UnitOf n) = true
mark_before (ActionOf a) (TaskOf n) = false
mark_before (ActionOf a) (ActionOf n) = nat_lt a n
mark_before (ActionOf a) (UnitOf n) = true
mark_before (UnitOf u) (TaskOf n) = false
mark_before (UnitOf u) (ActionOf n) = false
mark_before (UnitOf u) (UnitOf n) = nat_lt u n

-- one more or one less, where it is so
abbrev pub with_if : {X : Type 0} → (X → X → Bool) → Bool → X → List X → List X
with_if before b x xs = if b then with_member before x xs else xs

abbrev pub without_if : {X : Type 0} → (X → X → Bool) → Bool → X → List X → List X
without_if before b x xs = if b then without_member before x xs else xs

-- the locks after a change
abbrev pub locks_after : List LockId → Change → List LockId
locks_after locks (Lock l) = with_member lock_before l locks
locks_after locks (Unlock l) = without_member lock_before l locks
locks_after locks _ = locks

-- the marks that run by a worker after a change of its own
abbrev pub claimed_after : WorkerId → List MarkId → Change → List MarkId
claimed_after w marks (Move m from to) = with_if mark_before (runs_by w to) m (without_if mark_before (runs_by w from) m marks)
claimed_after w marks _ = marks

-- what is left after changes in order
abbrev pub after_all : {X : Type 0} → (X → Change → X) → X → List Change → X
after_all after x [] = x
after_all after x (c ∷ cs) = after_all after (after x c) cs
