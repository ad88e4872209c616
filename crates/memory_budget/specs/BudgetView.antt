-- A pool within a budget: the daemons, and the permits that are out.
use Rattle.std.specs.Prelude.{◌+◌, ◌≤◌, ℕ, List, Contains, sum_by}
use Rattle.daemon_manager.specs.PoolView.{PoolView}
use Rattle.memory_budget.specs.declared.permits.Permit.{Permit}
use Rattle.memory_budget.specs.declared.permits.OpenPermit.{OpenPermit}
use Rattle.memory_budget.specs.Heaps.{held, busy_heaps}

pub record BudgetView (L : Type 0) : Type 0 where
  pub pool : PoolView L
  -- the permits that were given, and neither spent nor given up
  pub permits : List OpenPermit
  pub budget_mb : ℕ

-- the unit and the heap of a permit, by which a pool knows it again
abbrev pub open_permit : Permit → OpenPermit
open_permit permit = record { unit = permit.unit; heap_mb = permit.requirements.heap_mb }

-- the heaps of permits
abbrev pub permitted : List OpenPermit → ℕ
permitted permits = sum_by (λ permit. permit.heap_mb) permits

module _ {L : Type 0} where
  -- the permit is out in this pool
  abbrev pub IsOut : BudgetView L → Permit → Type 0
  IsOut b permit = Contains b.permits (open_permit permit)

  -- what is held or promised for good: the heaps of the busy daemons, and of the permits that are out
  abbrev pub firm : BudgetView L → ℕ
  firm b = busy_heaps b.pool.events + permitted b.permits

  -- held and permitted memory are together at most the budget
  abbrev pub IsWithin : BudgetView L → Type 0
  IsWithin b = held b.pool.events + permitted b.permits ≤ b.budget_mb
