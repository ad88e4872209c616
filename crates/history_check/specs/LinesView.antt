-- What contracts see of lines.
use Rattle.std.specs.Prelude.{ℕ, List}

-- the line that was taken last, the bytes behind it that were taken too, and how many more may be taken
pub record LinesView : Type 0 where
  pub line : List ℕ
  pub ahead : List ℕ
  pub room : ℕ
