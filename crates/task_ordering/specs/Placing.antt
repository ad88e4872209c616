-- What placing tasks keeps.
use Rattle.std.specs.Prelude.{ℕ, ◌≡◌, ◌≢◌, ◌⊎◌, ◌<◌, ◌≤◌, ◌++◌, ◌∷◌, [], Bool, true, false, not, List, length}
use Rattle.std.specs.Prelude.{slice_index_or, slice_index, slice_set, Contains, count_by}
use Rattle.ready_work.specs.NumberSetView.{has, room_of}
use Rattle.ready_work.specs.Rank.{Dependencies, after}
use Rattle.task_ordering.specs.Befores.{IsListedBefore}
use Rattle.task_ordering.specs.Marks.{IsMarked}
use Rattle.task_ordering.specs.Placed.{IsFront, MarksPlaced}
use Rattle.task_ordering.specs.declared.placing.Placing.{Placing}

abbrev pub IsPlaced : Placing → ℕ → Type 0
IsPlaced s t = IsMarked s.placed.items t

abbrev pub next_of : Placing → ℕ → ℕ
next_of s t = slice_index_or s.next.items t 0

abbrev pub IsInReady : Placing → ℕ → Type 0
IsInReady s t = has s.ready t ≡ true

-- how many tasks have no mark
abbrev pub unplaced_count : Placing → ℕ
unplaced_count s = count_by not s.placed.items

-- The order is a front, the marks are its tasks', each task's befores up to its next one are placed, and those that are
-- ready are to run, aren't placed and wait for none.
pub record IsSoundPlacing (to_run : List Bool) (befores : Dependencies) (s : Placing) : Type 0 where
  pub marks : length s.placed.items ≡ length befores
  pub places : length s.next.items ≡ length befores
  pub room : length befores ≤ room_of s.ready
  pub front : IsFront (IsMarked to_run) (IsListedBefore befores) s.order.items
  pub placed : MarksPlaced s.order.items s.placed.items
  pub within : (t : ℕ) → next_of s t ≤ length (after befores t)
  pub passed : (t k : ℕ) → k < next_of s t → IsPlaced s (slice_index (after befores t) k)
  pub ready_to_run : (t : ℕ) → IsInReady s t → IsMarked to_run t
  pub ready_unplaced : (t : ℕ) → IsInReady s t → IsPlaced s t → ⊥
  pub ready_passed : (t : ℕ) → IsInReady s t → next_of s t ≡ length (after befores t)

-- the task waits for one that isn't placed
pub record Waits (befores : Dependencies) (s : Placing) (t : ℕ) : Type 0 where
  pub within : next_of s t < length (after befores t)
  pub unplaced : IsPlaced s (slice_index (after befores t) (next_of s t)) → ⊥

-- it is placed, or ready, or waits
abbrev pub IsSettled : Dependencies → Placing → ℕ → Type 0
IsSettled befores s t = IsPlaced s t ⊎ (IsInReady s t ⊎ Waits befores s t)

-- each task to run is settled, of the first n
abbrev pub AreSettled : ℕ → List Bool → Dependencies → Placing → Type 0
AreSettled n to_run befores s = (t : ℕ) → t < n → IsMarked to_run t → IsSettled befores s t

-- each task to run is settled, or stands in the list
abbrev pub AreSettledOrListed : List Bool → Dependencies → Placing → List ℕ → Type 0
AreSettledOrListed to_run befores s list = (t : ℕ) → IsMarked to_run t → IsSettled befores s t ⊎ Contains list t

-- new is old after a look at task t
pub record LooksAt (befores : Dependencies) (old new : Placing) (t : ℕ) : Type 0 where
  pub placed : new.placed.items ≡ old.placed.items
  pub order : new.order.items ≡ old.order.items
  pub settled : IsSettled befores new t
  pub others : (u : ℕ) → u ≢ t → (next_of new u ≡ next_of old u) × (has new.ready u ≡ has old.ready u)

-- new is old with t placed behind the others, and no longer ready
pub record Places (old new : Placing) (t : ℕ) : Type 0 where
  pub order : new.order.items ≡ old.order.items ++ t ∷ []
  pub placed : new.placed.items ≡ slice_set old.placed.items t true
  pub next : new.next.items ≡ old.next.items
  pub room : room_of new.ready ≡ room_of old.ready
  pub ready : has new.ready t ≡ false
  pub others : (u : ℕ) → u ≢ t → has new.ready u ≡ has old.ready u
