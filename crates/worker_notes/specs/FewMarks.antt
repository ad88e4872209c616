-- How many marks a worker runs.
use Rattle.std.specs.Prelude.{◌≡◌, ℕ}
use Rattle.lock_journal.specs.Names.{StateView, mark_of, WorkerId, Running, TaskOf, ActionOf, UnitOf}

-- the worker runs at most a task, an action and a unit
pub record RunsFew (s : StateView) (w : WorkerId) : Type 0 where
  pub task : (t n : ℕ) → mark_of s (TaskOf t) ≡ Running w → mark_of s (TaskOf n) ≡ Running w → t ≡ n
  pub action : (a n : ℕ) → mark_of s (ActionOf a) ≡ Running w → mark_of s (ActionOf n) ≡ Running w → a ≡ n
  pub unit : (u n : ℕ) → mark_of s (UnitOf u) ≡ Running w → mark_of s (UnitOf n) ≡ Running w → u ≡ n
