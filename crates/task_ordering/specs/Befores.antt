-- For each task those that stand before it.
use Rattle.std.specs.Prelude.{ℕ, ◌≡◌, ◌⊎◌, Bool, List, length, Contains}
use Rattle.ready_work.specs.Rank.{Dependencies, after}
use Rattle.task_ordering.specs.Marks.{IsMarked}
use Rattle.task_ordering.specs.Tasks.{SaysBefore}
use Rattle.task_ordering.specs.declared.tasks.OrderTask.{OrderTask}

-- a stands in the list of b
abbrev pub IsListedBefore : Dependencies → ℕ → ℕ → Type 0
IsListedBefore befores a b = Contains (after befores b) a

-- new is old with exactly these pairs more
pub record AddsPairs (old new : Dependencies) (IsPair : ℕ → ℕ → Type 0) : Type 0 where
  pub size : length new ≡ length old
  pub keeps : (a b : ℕ) → IsListedBefore old a b → IsListedBefore new a b
  pub adds : (a b : ℕ) → IsPair a b → IsListedBefore new a b
  pub only : (a b : ℕ) → IsListedBefore new a b → IsListedBefore old a b ⊎ IsPair a b

-- both have a mark
pub record HasBoth (marks : List Bool) (a b : ℕ) : Type 0 where
  pub first : IsMarked marks a
  pub second : IsMarked marks b

-- the lists have exactly the tasks with a mark of which a list says so
pub record TellsBefore (tasks : List OrderTask) (to_run : List Bool) (befores : Dependencies) : Type 0 where
  pub size : length befores ≡ length tasks
  pub marked : (a b : ℕ) → IsListedBefore befores a b → HasBoth to_run a b
  pub sound : (a b : ℕ) → IsListedBefore befores a b → SaysBefore tasks a b
  pub complete : (a b : ℕ) → HasBoth to_run a b → SaysBefore tasks a b → IsListedBefore befores a b
