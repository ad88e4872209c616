-- What a worker has, owns and runs, and lists without its entries.
use Rattle.std.specs.Prelude.{ℕ, ◌≡◌, ◌≢◌, ◌<◌, ◌+◌, Bool, true, false, List, [], ◌∷◌, ◌++◌, map, Some, if◌then◌else◌}
use Rattle.resource_lock.specs.declared.ids.LockId.{LockId}
use Rattle.resource_lock.specs.declared.ids.WorkerId.{WorkerId}
use Rattle.resource_lock.specs.declared.marks.Mark.TheVariants.{Running}
use Rattle.resource_lock.specs.declared.marks.MarkId.{MarkId}
use Rattle.resource_lock.specs.declared.marks.MarkId.TheVariants.{Task as TaskOf, Action as ActionOf, Unit as UnitOf}
use Rattle.resource_lock.specs.StateView.{StateView, holding_of, owner_of, owns, mark_of, runs_by, runs_task, is_parked, runs_unit, is_idle}
use Rattle.lock_transforms.specs.Entry.{Entry}
use Rattle.lock_transforms.specs.Table.{owned}

-- the numbers, from n on, of those of a list that pass a test
abbrev pub places_from : {X : Type 0} → (X → Bool) → ℕ → List X → List ℕ
places_from test n [] = []
places_from test n (x ∷ xs) = if test x then n ∷ places_from test (n + 1) xs else places_from test (n + 1) xs

abbrev pub task_at : ℕ → MarkId
task_at n = TaskOf n

abbrev pub action_at : ℕ → MarkId
action_at n = ActionOf n

abbrev pub unit_at : ℕ → MarkId
unit_at n = UnitOf n

-- tasks, actions and units, in this order
abbrev pub marks_in : List ℕ → List ℕ → List ℕ → List MarkId
marks_in tasks actions units = map task_at tasks ++ (map action_at actions ++ map unit_at units)

abbrev pub is_unit : MarkId → Bool
is_unit (UnitOf u) = true
is_unit _ = false

abbrev pub is_action : MarkId → Bool
is_action (ActionOf a) = true
is_action _ = false

-- the marks that are Running by a worker: tasks, actions, units, each by rising number
abbrev pub claimed : StateView → WorkerId → List MarkId
claimed s w = marks_in (places_from (runs_by w) 0 s.tasks) (places_from (runs_by w) 0 s.actions) (places_from (runs_by w) 0 s.units)

-- the worker has, owns and runs the same in both states
pub record SameFor (w : WorkerId) (s s' : StateView) : Type 0 where
  pub holding : holding_of s' w ≡ holding_of s w
  pub owns : (l : LockId) → owns s' w l ≡ owns s w l
  pub owned : owned s' w ≡ owned s w
  pub running : (m : MarkId) → (mark_of s m ≡ Running w → mark_of s' m ≡ Running w) × (mark_of s' m ≡ Running w → mark_of s m ≡ Running w)
  pub claimed : claimed s' w ≡ claimed s w
  pub runs_task : runs_task s' w ≡ runs_task s w
  pub is_parked : is_parked s' w ≡ is_parked s w
  pub runs_unit : runs_unit s' w ≡ runs_unit s w
  pub is_idle : is_idle s' w ≡ is_idle s w

-- whoever owns a lock or runs a mark is one of the first n workers
pub record NamesWorkers (n : ℕ) (s : StateView) : Type 0 where
  pub owners : (l : LockId) (w : WorkerId) → owner_of s l ≡ Some w → w.0 < n
  pub runners : (m : MarkId) (w : WorkerId) → mark_of s m ≡ Running w → w.0 < n

-- no entry of the worker's stands in the list
abbrev pub NoneOf : WorkerId → List Entry → Type 0
NoneOf w [] = Unit {0}
NoneOf w (e ∷ h) = (e.worker.0 ≢ w.0) × NoneOf w h
