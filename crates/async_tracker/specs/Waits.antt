-- What the calls of the tracker wait for.
use Rattle.std.specs.Prelude.{ℕ, ◌≡◌, ◌≢◌, Bool, false, ◌&&◌, [], ◌∷◌}
use Rattle.std.specs.List.{list_all}
use Rattle.lock_journal.specs.Names.{same_mark, GraphView, items_of, StateView, mark_of, can_lease, Retention, Retain, Release}
use Rattle.lock_journal.specs.Names.{ReleaseAndReacquire, LockId, WorkerId, Waiting, Queued, ActionOf, UnitOf, earlier_passed, fetch_closed}
use Rattle.lock_journal.specs.Names.{can_take_all}

-- the action and its items wait, and all that comes before them in the task is over
abbrev pub can_queue : GraphView → StateView → ℕ → Bool
can_queue g s a =
    same_mark (mark_of s (ActionOf a)) Waiting
    && earlier_passed g s a
    && fetch_closed g s a
    && list_all (λ u. same_mark (mark_of s (UnitOf u)) Waiting) (items_of g a)

abbrev pub CannotQueue : ℕ → GraphView → WorkerId → StateView → Type 0
CannotQueue a g w s = can_queue g s a ≡ false

-- the action isn't Queued
abbrev pub ActionIsNotQueued : ℕ → GraphView → WorkerId → StateView → Type 0
ActionIsNotQueued a g w s = mark_of s (ActionOf a) ≢ Queued

-- the lock or the lease that the retention takes again can't be had
abbrev pub CannotTakeAgain : Retention → LockId → WorkerId → StateView → Type 0
CannotTakeAgain Retain l w s = can_lease s w ≡ false
CannotTakeAgain Release l w s = ⊥
CannotTakeAgain ReleaseAndReacquire l w s = can_take_all s w (l ∷ []) ≡ false
