-- Which idle daemons are stopped for memory.
use Rattle.std.specs.Prelude.{◌≡◌, ◌+◌, ◌<◌, ◌≤◌, ℕ, List, ◌++◌, length, map, take}
use Rattle.daemon_requirements.specs.RequirementsView.{RequirementsView}
use Rattle.daemon_manager.specs.declared.events.Event.TheVariants.{Stopped}
use Rattle.daemon_manager.specs.declared.idle.IdleDaemon.{IdleDaemon}
use Rattle.daemon_manager.specs.PoolView.{PoolView}
use Rattle.memory_budget.specs.Heaps.{held, idle_heaps}

module _ {L : Type 0} (made_for : L → RequirementsView) where
  -- without these idle daemons, no more than this much memory is held
  abbrev pub IsEnough : PoolView L → ℕ → List (IdleDaemon L) → Type 0
  IsEnough p most_mb daemons = held p.events ≤ most_mb + idle_heaps made_for daemons

  -- the daemons were stopped, which are the first of the idle order: their links are given in this order
  pub record StopsFirst (old new : PoolView L) (daemons : List (IdleDaemon L)) (given : List L) : Type 0 where
    pub first : old.idle ≡ daemons ++ new.idle
    pub events : new.events ≡ old.events ++ map (λ i. Stopped i.daemon) daemons
    pub links : given ≡ map (λ i. i.link) daemons

  -- no shorter run of idle daemons, from the first on, is enough
  abbrev pub NoneShorter : PoolView L → ℕ → List (IdleDaemon L) → Type 0
  NoneShorter p most_mb daemons = (n : ℕ) → n < length daemons → ¬ IsEnough p most_mb (take n p.idle)

  -- The shortest run of idle daemons was stopped, from the first on, without which no more than this much memory is held.
  pub record StopsShortest (old new : PoolView L) (most_mb : ℕ) (links : List L) : Type 0 where
    pub daemons : List (IdleDaemon L)
    pub stopped : StopsFirst old new daemons links
    pub enough : IsEnough old most_mb daemons
    pub shortest : NoneShorter old most_mb daemons
