-- Numbers that rise along the dependencies.
use Rattle.std.specs.Prelude.{◌<◌, ℕ, length}
use Rattle.std.specs.List.{All}
use Rattle.ready_work.specs.Rank.{Dependencies, after}

-- each task has a number below the count of tasks, above the numbers of the tasks that it comes after
pub record IsNumbering (d : Dependencies) (number : ℕ → ℕ) : Type 0 where
  pub below : (t : ℕ) → t < length d → number t < length d
  pub rises : (t : ℕ) → All (λ u. number u < number t) (after d t)
