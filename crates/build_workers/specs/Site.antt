-- What the workers of a run share, and which passes are there.
use Rattle.std.specs.Prelude.{◌≡◌, List}
use Rattle.resource_lock.specs.GraphView.{GraphView}
use Rattle.coordination.specs.Passes.{CoordinationView, PassView}
use Rattle.plan_reader.specs.Units.{PlannedUnit}

-- the service, the graph of the plan, and its units by number
pub record SiteView : Type 0 where
  pub service : CoordinationView
  pub graph : GraphView
  pub units : List PlannedUnit

-- The pass is of the site's service, and has seen a book of its graph.
pub record IsAt (s : SiteView) (p : PassView) : Type 0 where
  pub service : p.service ≡ s.service.service
  pub graph : p.sight.seen.graph ≡ s.graph
