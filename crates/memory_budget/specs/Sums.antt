-- The sums that a pool's calls keep.
use Rattle.std.specs.Prelude.{◌≡◌, ◌+◌, ℕ}
use Rattle.daemon_requirements.specs.RequirementsView.{RequirementsView}
use Rattle.daemon_manager.specs.PoolView.{PoolView}
use Rattle.memory_budget.specs.Heaps.{held, busy_heaps, idle_heaps}

pub record AreSums {L : Type 0} (made_for : L → RequirementsView) (p : PoolView L) (held_mb busy_mb : ℕ) : Type 0 where
  pub held : held_mb ≡ held p.events
  pub busy : busy_mb ≡ busy_heaps p.events
  -- what is held and isn't busy is idle
  pub idle : held_mb ≡ busy_mb + idle_heaps made_for p.idle
