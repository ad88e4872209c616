-- What is known of a source.
use Rattle.std.specs.Prelude.{ℕ, List, Option}

-- the bytes left, where they are known, and the count of faults
pub record SourceView : Type 0 where
  pub left : Option (List ℕ)
  pub faults : ℕ
