-- Two states with the same locks, workers and marks.
use Rattle.std.specs.Prelude.{◌≡◌, length}
use Rattle.resource_lock.specs.StateView.{StateView}
use Rattle.resource_lock.specs.GraphView.{GraphView}

pub record SameShape (s t : StateView) : Type 0 where
  pub max_leases : s.max_leases ≡ t.max_leases
  pub all : s.all ≡ t.all
  pub locks : length s.owners ≡ length t.owners
  pub workers : length s.holdings ≡ length t.holdings
  pub tasks : length s.tasks ≡ length t.tasks
  pub actions : length s.actions ≡ length t.actions
  pub units : length s.units ≡ length t.units

-- the state is one of the graph
pub record BelongsTo (g : GraphView) (s : StateView) : Type 0 where
  pub max_leases : s.max_leases ≡ g.max_leases
  pub all : s.all ≡ g.all
  pub locks : length s.owners ≡ g.locks
  pub workers : length s.holdings ≡ g.workers
  pub tasks : length s.tasks ≡ length g.tasks
  pub actions : length s.actions ≡ length g.actions
  pub units : length s.units ≡ g.units
