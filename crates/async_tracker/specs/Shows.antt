-- What a pass shows before and after the calls of the tracker.
use Rattle.std.specs.Prelude.{ℕ, ◌≡◌, ◌<◌, ◌⊎◌, Bool, true, false, List, [], ◌∷◌, ◌++◌, Contains}
use Rattle.std.specs.List.{list_any}
use Rattle.lock_journal.specs.Names.{stands_last, without_last, GraphView, action_of, is_item, lock_with, owns, stands_in, Retention, Retain, Release}
use Rattle.lock_journal.specs.Names.{ReleaseAndReacquire, LockId, TaskOf, ActionOf, UnitOf, BookView, is_action, is_unit, lock_before, mark_before}
use Rattle.lock_journal.specs.Names.{with_member, without_member}
use Rattle.coordination.specs.Names.{Agrees, Shows, blocked_shown, claimed_shown, lease_shown, locks_shown, parked_shown}
use Rattle.coordination.specs.declared.rule.Sight.{Sight}
use Rattle.async_tracker.specs.ParkedView.{ParkedView}

-- the unit is one of the graph's items
pub record IsItemHere (g : GraphView) (u : ℕ) : Type 0 where
  pub in_range : u < g.units
  pub item : is_item g u ≡ true

-- The worker has no lease, isn't blocked and runs no unit.
pub record IsFree (s : Sight) : Type 0 where
  pub lease : lease_shown s ≡ false
  pub blocked : blocked_shown s ≡ false
  pub units : list_any is_unit (claimed_shown s) ≡ false

-- The worker owns and runs nothing, or waits for the items of an action.
abbrev pub IsIdleOrParked : Sight → Type 0
IsIdleOrParked s = ((locks_shown s ≡ []) × (claimed_shown s ≡ [])) ⊎ (list_any is_action (claimed_shown s) ≡ true)

-- The worker runs the task, has a lease, and waits for no items.
pub record WorksOn (s : Sight) (t : ℕ) : Type 0 where
  pub task : Contains (claimed_shown s) (TaskOf t)
  pub lease : lease_shown s ≡ true
  pub actions : list_any is_action (claimed_shown s) ≡ false

-- the worker owns the lock, where it is to park it
abbrev pub OwnsToPark : Retention → LockId → Sight → Type 0
OwnsToPark Retain l s = Unit {0}
OwnsToPark _ l s = stands_in l (locks_shown s) ≡ true

-- the lock is the one that the worker parked last, where it has parked it
abbrev pub HasParkedLast : Retention → LockId → Sight → Type 0
HasParkedLast Retain l s = Unit {0}
HasParkedLast _ l s = stands_last l (parked_shown s) ≡ true

-- The worker is the one that waits, and has claimed the action.
pub record IsParkedBy (s : Sight) (p : ParkedView) : Type 0 where
  pub worker : p.worker ≡ s.worker
  pub action : Contains (claimed_shown s) (ActionOf p.action)
  pub lock : HasParkedLast (action_of s.seen.graph p.action).retention (lock_with s.seen.graph p.action) s

-- with a lease, and the unit claimed
abbrev pub ShowsClaimed : ℕ → Sight → Sight → Type 0
ShowsClaimed u old new = Shows (locks_shown old) true (with_member mark_before (UnitOf u) (claimed_shown old)) (parked_shown old) old new

-- without a lease, and without the unit
abbrev pub ShowsClosed : ℕ → Sight → Sight → Type 0
ShowsClosed u old new = Shows (locks_shown old) false (without_member mark_before (UnitOf u) (claimed_shown old)) (parked_shown old) old new

-- what is left of the locks, the parked locks and the lease
abbrev pub locks_on_park : Retention → LockId → List LockId → List LockId
locks_on_park Retain l locks = locks
locks_on_park _ l locks = without_member lock_before l locks

abbrev pub parked_on_park : Retention → LockId → List LockId → List LockId
parked_on_park Retain l parked = parked
parked_on_park _ l parked = parked ++ l ∷ []

abbrev pub locks_on_resume : Retention → LockId → List LockId → List LockId
locks_on_resume ReleaseAndReacquire l locks = with_member lock_before l locks
locks_on_resume _ l locks = locks

abbrev pub parked_on_resume : Retention → List LockId → List LockId
parked_on_resume Retain parked = parked
parked_on_resume _ parked = without_last parked

abbrev pub lease_on_resume : Retention → Bool
lease_on_resume Release = false
lease_on_resume _ = true

-- without a lease, with the action claimed, and with the lock parked unless it is retained
abbrev pub ShowsParked : Retention → LockId → ℕ → Sight → Sight → Type 0
ShowsParked r l a old new = Shows (locks_on_park r l (locks_shown old)) false
    (with_member mark_before (ActionOf a) (claimed_shown old)) (parked_on_park r l (parked_shown old)) old new

-- without the action, and with the lock and the lease that the retention takes again
abbrev pub ShowsResumed : Retention → LockId → ℕ → Sight → Sight → Type 0
ShowsResumed r l a old new = Shows (locks_on_resume r l (locks_shown old)) (lease_on_resume r)
    (without_member mark_before (ActionOf a) (claimed_shown old)) (parked_on_resume r (parked_shown old)) old new

-- the worker doesn't own the lock, unless it retains it, in any book that goes on by entries of others from what the pass has seen
abbrev pub HasReleased : Retention → LockId → Sight → Type 0
HasReleased Retain l s = Unit {0}
HasReleased _ l s = (book : BookView) → Agrees s.worker s.seen book → owns book.state s.worker l ≡ false
