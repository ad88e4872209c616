-- The permits that are out, with room for more.
use Rattle.std.specs.Prelude.{ℕ, List}
use Rattle.memory_budget.specs.declared.permits.OpenPermit.{OpenPermit}

pub record OpenPermitsView : Type 0 where
  pub permits : List OpenPermit
  -- how many more fit with no allocation
  pub room : ℕ
