-- What a run has before it begins.
use Rattle.std.specs.Prelude.{◌≡◌, [], All, List, Option, length, map, ℕ}
use Rattle.resource_lock.specs.GraphView.{GraphView}
use Rattle.coordination.specs.Names.{CoordinationView, PassView, workers_from}
use Rattle.plan_reader.specs.Graph.{graph_of}
use Rattle.plan_reader.specs.PlanView.{PlanView}
use Rattle.plan_reader.specs.Units.{PlannedUnit, plan_units}
use Rattle.build_workers.specs.Worked.{CanWork}
use Rattle.build_runner.specs.Watching.{HasRoomToLook, IsWatchedBy}
use Rattle.build_workers.specs.declared.kits.Kit.{Kit}
use Rattle.build_workers.specs.declared.options.RunOptions.{RunOptions}

-- The service is open over a book of the graph, with a pass for each worker in order, and none of them has anything.
pub record IsOpenedOn (g : GraphView) (c : CoordinationView) (ps : List PassView) : Type 0 where
  pub graph : c.book.graph ≡ g
  pub passes : length ps ≡ g.workers
  pub ready : All (CanWork c g) ps
  pub untouched : All (λ pass. pass.sight.seen.history ≡ []) ps
  pub workers : map (λ pass. pass.sight.worker.0) ps ≡ workers_from 0 g.workers

-- The graph and the units are the plan's, and the service is open on that graph. Each worker has a kit, which looks at the service's
-- history where the run is watched, and then there is room for what is seen.
pub record IsPrepared (plan : PlanView) (options : RunOptions) (g : GraphView) (us : List PlannedUnit) (c : CoordinationView)
    (ps : List PassView) (ks : List Kit) (room : Option ℕ) : Type 0 where
  pub graph : g ≡ graph_of plan options.workers options.max_leases options.parallel
  pub units : us ≡ plan_units plan
  pub opened : IsOpenedOn g c ps
  pub kits : length ks ≡ options.workers
  pub watched : All (IsWatchedBy c.service) ks
  pub looks : HasRoomToLook options.watch g.units room
