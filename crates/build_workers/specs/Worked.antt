-- What a worker has as a run begins, and what it did in it.
use Rattle.std.specs.Prelude.{◌≡◌, true}
use Rattle.resource_lock.specs.GraphView.{GraphView}
use Rattle.coordination.specs.Names.{HoldsNothing, CoordinationView, PassView}
use Rattle.build_workers.specs.Points.{HasFinishedWork}
use Rattle.build_workers.specs.Site.{SiteView}
use Rattle.build_workers.specs.Steps.{Steps}
use Rattle.build_workers.specs.WorkerView.{WorkerView}

-- The pass is of the service, has seen a book of the graph, and has nothing.
pub record CanWork (c : CoordinationView) (g : GraphView) (p : PassView) : Type 0 where
  pub service : p.service ≡ c.service
  pub graph : p.sight.seen.graph ≡ g
  pub rests : HoldsNothing p.sight

-- The worker did what each part of a run does, and came to the end, where it says so.
pub record HasWorked (s : SiteView) (old new : WorkerView) : Type 0 where
  pub step : Steps s old new new.ended
  pub finished : new.ended ≡ true → HasFinishedWork new.pass.sight
