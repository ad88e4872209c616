-- What a pass shows before and after a task starts and ends, and where it can't.
use Rattle.std.specs.Prelude.{ℕ, ◌≡◌, Bool, true, false, ◌||◌, List, [], ◌∷◌, Contains, if◌then◌else◌}
use Rattle.std.specs.List.{list_all, list_any}
use Rattle.lock_journal.specs.Names.{can_all, GraphView, task_of, actions_of, StateView, mark_of, LockId, WorkerId, TaskOf, ActionOf, has_passed}
use Rattle.lock_journal.specs.Names.{list_of, never_ran, End, lock_before, mark_before, without_member, is_action, is_unit}
use Rattle.worker_choices.specs.NextSteps.{CanBegin}
use Rattle.coordination.specs.Shown.{Shows, blocked_shown, claimed_shown, lease_shown, locks_shown, parked_shown}
use Rattle.coordination.specs.declared.rule.Sight.{Sight}

-- The worker runs the task, and neither waits for items nor runs a unit nor is blocked.
pub record MayEnd (s : Sight) (t : ℕ) : Type 0 where
  pub task : Contains (claimed_shown s) (TaskOf t)
  pub actions : list_any is_action (claimed_shown s) ≡ false
  pub units : list_any is_unit (claimed_shown s) ≡ false
  pub blocked : blocked_shown s ≡ false

-- with the task, its lock and a lease, and with nothing else
abbrev pub ShowsStarted : ℕ → Sight → Sight → Type 0
ShowsStarted t old new = Shows ((task_of old.seen.graph t).lock ∷ []) true (TaskOf t ∷ []) [] old new

-- what is left of the locks: who has a lease gives the task's lock back with it
abbrev pub locks_on_end : Bool → LockId → List LockId → List LockId
locks_on_end leased l locks = if leased then without_member lock_before l locks else locks

-- without a lease, without the task, and with what is left of the locks
abbrev pub ShowsEnded : ℕ → Sight → Sight → Type 0
ShowsEnded t old new = Shows (locks_on_end (lease_shown old) (task_of old.seen.graph t).lock (locks_shown old)) false
    (without_member mark_before (TaskOf t) (claimed_shown old)) (parked_shown old) old new

-- the task isn't Waiting, one that it comes after hasn't passed, somebody owns a lock that conflicts with its own, or no lease is free
abbrev pub CannotStart : ℕ → GraphView → WorkerId → StateView → Type 0
CannotStart t g w s = ¬ CanBegin g w s t

-- each action of the task has passed, or never ran
abbrev pub is_through : GraphView → StateView → ℕ → Bool
is_through g s t = list_all (λ a. has_passed (mark_of s (ActionOf a)) || never_ran g s a) (actions_of g t)

-- where each action is through, one of the changes of the task's end can't be made
abbrev pub CannotEnd : ℕ → GraphView → WorkerId → StateView → Type 0
CannotEnd t g w s = is_through g s t ≡ true → can_all s w (list_of g s w (End t)) ≡ false
