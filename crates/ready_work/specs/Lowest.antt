-- The lowest number of which something holds.
use Rattle.std.specs.Prelude.{ℕ, ◌<◌, ◌≤◌}

-- no number below this one is such
abbrev pub NoneBelow : (ℕ → Type 0) → ℕ → Type 0
NoneBelow Such n = (k : ℕ) → k < n → Such k → ⊥

-- it is such a number, and none below it is
pub record IsLowest (Such : ℕ → Type 0) (n : ℕ) : Type 0 where
  pub is : Such n
  pub least : NoneBelow Such n

-- no number is such
pub record IsNone (Such : ℕ → Type 0) : Type 0 where
  pub none : (n : ℕ) → Such n → ⊥

-- it is such a number, and none of those below the first
pub record IsFrom (first : ℕ) (Such : ℕ → Type 0) (n : ℕ) : Type 0 where
  pub past : first ≤ n
  pub such : Such n
