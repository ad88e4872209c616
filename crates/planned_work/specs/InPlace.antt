-- What a worker has by what it runs, after each lawful history.
use Rattle.std.specs.Prelude.{ℕ, ◌≡◌, ◌⊎◌, ◌+◌, true, false, List, [], ◌∷◌}
use Rattle.lock_journal.specs.Names.{GraphView, action_of, task_of, IsActionOf, is_item, lock_with, StateView, has_parked, holding_of, is_parked}
use Rattle.lock_journal.specs.Names.{mark_of, owns, runs_unit, Retention, Retain, Release, LockId, WorkerId, Passed, Running, TaskOf, ActionOf}
use Rattle.lock_journal.specs.Names.{UnitOf}

-- the worker owns the lock, or has parked it
abbrev pub HasLock : StateView → WorkerId → LockId → Type 0
HasLock s w l = (owns s w l ≡ true) ⊎ (has_parked s w l ≡ true)

-- The worker gave its lease and the task's lock back for good, behind an action that releases.
pub record HasReleasedTask (g : GraphView) (s : StateView) (w : WorkerId) (t : ℕ) : Type 0 where
  pub lease : (holding_of s w).lease ≡ false
  pub blocked : (holding_of s w).blocked ≡ false
  pub waits : is_parked s w ≡ false
  pub action : ℕ
  pub of_task : IsActionOf g t action
  pub releases : (action_of g action).retention ≡ Release
  pub passed : mark_of s (ActionOf action) ≡ Passed

-- what a worker has parked that waits for the items of an action
abbrev pub parked_under : Retention → LockId → List LockId
parked_under Retain l = []
parked_under _ l = l ∷ []

-- The worker has the lock of the task that it runs, and a lease where it neither waits nor is blocked, unless it has released both. What
-- waits for the items of an action isn't blocked, has parked the lock or nothing, and has a lease for a unit alone. Else, where it isn't
-- blocked, it has parked nothing. What runs a unit and isn't blocked runs an item, and has a lease.
pub record IsInPlace (g : GraphView) (s : StateView) (w : WorkerId) : Type 0 where
  pub task : (t : ℕ) → mark_of s (TaskOf t) ≡ Running w → HasLock s w (task_of g t).lock ⊎ HasReleasedTask g s w t
  pub works : (t : ℕ) → mark_of s (TaskOf t) ≡ Running w → (holding_of s w).blocked ≡ false → is_parked s w ≡ false
      → ((holding_of s w).lease ≡ true) ⊎ HasReleasedTask g s w t
  pub parked : (holding_of s w).blocked ≡ false → is_parked s w ≡ false → (holding_of s w).parked ≡ []
  pub waits : (a : ℕ) → mark_of s (ActionOf a) ≡ Running w
      → ((holding_of s w).blocked ≡ false) × ((holding_of s w).parked ≡ parked_under (action_of g a).retention (lock_with g a))
  pub lease : (a : ℕ) → mark_of s (ActionOf a) ≡ Running w → (holding_of s w).lease ≡ true → runs_unit s w ≡ true
  pub item : (u : ℕ) → mark_of s (UnitOf u) ≡ Running w → (holding_of s w).blocked ≡ false
      → (is_item g u ≡ true) × ((holding_of s w).lease ≡ true)

-- no action but the last of its task releases
abbrev pub ReleasesLast : GraphView → Type 0
ReleasesLast g = (t a : ℕ) → IsActionOf g t a → (action_of g a).retention ≡ Release → a + 1 ≡ (task_of g t).first_action + (task_of g t).actions
