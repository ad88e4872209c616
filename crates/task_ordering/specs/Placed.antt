-- What is placed of the members of a set.
use Rattle.std.specs.Prelude.{ℕ, ◌≡◌, ◌⊎◌, ◌<◌, ◌≤◌, Bool, List, length, slice_index, Contains}
use Rattle.ready_work.specs.Rank.{Dependencies}
use Rattle.task_ordering.specs.Befores.{IsListedBefore, HasBoth}
use Rattle.task_ordering.specs.Marks.{IsMarked}
use Rattle.task_ordering.specs.Orders.{HasRank, IsLesser, IsOrder, StandsAt}

-- xs begins as ys does, and ys is no shorter
pub record Begins (xs ys : List ℕ) : Type 0 where
  pub shorter : length xs ≤ length ys
  pub same : (k : ℕ) → k < length xs → slice_index xs k ≡ slice_index ys k

-- Members stand in the list, each with those before it earlier, and each order begins with the list or is greater.
pub record IsFront (IsMember : ℕ → Type 0) (IsBefore : ℕ → ℕ → Type 0) (xs : List ℕ) : Type 0 where
  pub only : (t : ℕ) → Contains xs t → IsMember t
  pub once : (t j k : ℕ) → StandsAt xs j t → StandsAt xs k t → j ≡ k
  pub earlier : (a b k : ℕ) → IsBefore a b → StandsAt xs k b → (j : ℕ) × (j < k) × StandsAt xs j a
  pub ranked : (t : ℕ) → Contains xs t → HasRank IsMember IsBefore t
  pub least : (ys : List ℕ) → IsOrder IsMember IsBefore ys → Begins xs ys ⊎ IsLesser xs ys

-- a member that doesn't stand in the list, while all that are before it do
pub record IsReady (IsMember : ℕ → Type 0) (IsBefore : ℕ → ℕ → Type 0) (xs : List ℕ) (t : ℕ) : Type 0 where
  pub member : IsMember t
  pub fresh : Contains xs t → ⊥
  pub after : (u : ℕ) → IsBefore u t → Contains xs u

-- the marks are those of the tasks in the list
pub record MarksPlaced (xs : List ℕ) (placed : List Bool) : Type 0 where
  pub sound : (t : ℕ) → IsMarked placed t → Contains xs t
  pub complete : (t : ℕ) → Contains xs t → IsMarked placed t

-- for each task with a mark, tasks with a mark
pub record AreBefores (to_run : List Bool) (befores : Dependencies) : Type 0 where
  pub size : length befores ≡ length to_run
  pub marked : (a b : ℕ) → IsListedBefore befores a b → HasBoth to_run a b

-- the list is a front to which no task can be added
pub record AreAllPlaced (to_run : List Bool) (befores : Dependencies) (placed : List Bool) (xs : List ℕ) : Type 0 where
  pub size : length placed ≡ length to_run
  pub front : IsFront (IsMarked to_run) (IsListedBefore befores) xs
  pub marks : MarksPlaced xs placed
  pub none : (t : ℕ) → IsReady (IsMarked to_run) (IsListedBefore befores) xs t → ⊥
