-- Which tasks are to run, and which of them stand before which.
use Rattle.std.specs.Prelude.{ℕ, ◌⊎◌, List, [], map, slice_index_or, Contains}
use Rattle.task_ordering.specs.declared.tasks.OrderTask.{OrderTask}

-- the numbers in the lists of a task
abbrev pub after : List OrderTask → ℕ → List ℕ
after tasks t = slice_index_or (map (λ task. task.after.items) tasks) t []

abbrev pub must_after : List OrderTask → ℕ → List ℕ
must_after tasks t = slice_index_or (map (λ task. task.must_after.items) tasks) t []

abbrev pub finalized_by : List OrderTask → ℕ → List ℕ
finalized_by tasks t = slice_index_or (map (λ task. task.finalized_by.items) tasks) t []

-- where t runs, u runs
abbrev pub Needs : List OrderTask → ℕ → ℕ → Type 0
Needs tasks t u = Contains (after tasks t) u ⊎ Contains (finalized_by tasks t) u

-- A task is to run where it is asked for, or where a task that is to run needs it.
pub data IsToRun (tasks : List OrderTask) (asked : List ℕ) : ℕ → Type 0 where
  is_asked : (t : ℕ) → Contains asked t → IsToRun tasks asked t
  is_needed : (t u : ℕ) → IsToRun tasks asked t → Needs tasks t u → IsToRun tasks asked u

-- one of the lists says that a stands before b
abbrev pub SaysBefore : List OrderTask → ℕ → ℕ → Type 0
SaysBefore tasks a b = Contains (after tasks b) a ⊎ (Contains (must_after tasks b) a ⊎ Contains (finalized_by tasks a) b)

-- both are to run, and a stands before b
pub record IsBefore (tasks : List OrderTask) (asked : List ℕ) (a b : ℕ) : Type 0 where
  pub first : IsToRun tasks asked a
  pub second : IsToRun tasks asked b
  pub says : SaysBefore tasks a b
