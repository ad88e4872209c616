-- An ordering, as contracts see it.
use Rattle.std.specs.Prelude.{ℕ, List}
use Rattle.ready_work.specs.Rank.{Dependencies}

-- for each task those that stand before it, and the order
pub record OrderingView : Type 0 where
  pub befores : Dependencies
  pub order : List ℕ
