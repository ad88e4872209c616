-- What the single steps wait for.
use Rattle.std.specs.Prelude.{ℕ, ◌≡◌, ◌≢◌, false, Option, None}
use Rattle.lock_journal.specs.Names.{GraphView, action_of, lock_with, StateView, mark_of, can_lease, WorkerId, Queued, UnitOf, BookView}
use Rattle.worker_choices.specs.NextSteps.{first_open}
use Rattle.async_tracker.specs.Waits.{CannotTakeAgain}

-- no lease is free for a unit that is Queued
abbrev pub NeedsLease : ℕ → GraphView → WorkerId → StateView → Type 0
NeedsLease u g w s = (mark_of s (UnitOf u) ≡ Queued) × (can_lease s w ≡ false)

-- the unit isn't Queued
abbrev pub IsNotQueued : ℕ → GraphView → WorkerId → StateView → Type 0
IsNotQueued u g w s = mark_of s (UnitOf u) ≢ Queued

abbrev pub IsFirstOpen : ℕ → WorkerId → BookView → Option ℕ → Type 0
IsFirstOpen a w book unit = unit ≡ first_open book.graph book.state a

-- all items have ended, and the lock or the lease can't be had
abbrev pub CannotResume : ℕ → GraphView → WorkerId → StateView → Type 0
CannotResume a g w s = (first_open g s a ≡ None) × CannotTakeAgain (action_of g a).retention (lock_with g a) w s
