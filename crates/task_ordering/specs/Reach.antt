-- The search for the tasks to run.
use Rattle.std.specs.Prelude.{ℕ, ◌≡◌, ◌⊎◌, ◌+◌, not, List, length, Contains, count_by}
use Rattle.task_ordering.specs.Marks.{IsMarked}
use Rattle.task_ordering.specs.Tasks.{Needs, IsToRun}
use Rattle.task_ordering.specs.declared.tasks.OrderTask.{OrderTask}
use Rattle.task_ordering.specs.declared.reaching.Reach.{Reach}

-- how much is left to do
abbrev pub work_left : Reach → ℕ
work_left s = count_by not s.marks.items + length s.stack.items

-- new is old with marks on these tasks, of which those without a mark went on the stack
pub record Reaches (old new : Reach) (tasks : List ℕ) : Type 0 where
  pub size : length new.marks.items ≡ length old.marks.items
  pub keeps : (t : ℕ) → IsMarked old.marks.items t → IsMarked new.marks.items t
  pub marks : (t : ℕ) → Contains tasks t → IsMarked new.marks.items t
  pub only : (t : ℕ) → IsMarked new.marks.items t → IsMarked old.marks.items t ⊎ (Contains tasks t × Contains new.stack.items t)
  pub stack : (t : ℕ) → Contains old.stack.items t → Contains new.stack.items t
  pub stacked : (t : ℕ) → Contains new.stack.items t → Contains old.stack.items t ⊎ IsMarked new.marks.items t
  pub work : work_left new ≡ work_left old

-- The tasks with a mark are to run, those asked for have one, and so has what any of them needs, but for those on the stack.
pub record IsSoundReach (tasks : List OrderTask) (asked : List ℕ) (s : Reach) : Type 0 where
  pub size : length s.marks.items ≡ length tasks
  pub sound : (t : ℕ) → IsMarked s.marks.items t → IsToRun tasks asked t
  pub begun : (t : ℕ) → Contains asked t → IsMarked s.marks.items t
  pub stacked : (t : ℕ) → Contains s.stack.items t → IsMarked s.marks.items t
  pub needed : (t : ℕ) → IsMarked s.marks.items t → Contains s.stack.items t ⊎ ((u : ℕ) → Needs tasks t u → IsMarked s.marks.items u)
