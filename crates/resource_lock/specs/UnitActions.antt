-- A graph, with the action of each unit where these were noted.
use Rattle.std.specs.Prelude.{ℕ, ◌≡◌, ◌+◌, ◌<◌, ◌≤◌, List, length, slice_index_or, IfSome}
use Rattle.resource_lock.specs.GraphView.{GraphView, action_of}
use Rattle.resource_lock.specs.Fits.{Fits}
use Rattle.resource_lock.specs.Ranges.{units_in, IsUnitOf}
use Rattle.resource_lock.specs.declared.graphs.Graph.TheInside.{Inside}

-- the list has for each unit below this number its action, and no more
pub record HasUnitActions (g : GraphView) (n : ℕ) (actions : List ℕ) : Type 0 where
  pub size : length actions ≡ n
  pub within : (u : ℕ) → u < n → slice_index_or actions u 0 < length g.actions
  pub each : (u : ℕ) → u < n → IsUnitOf g (slice_index_or actions u 0) u

-- the action has the unit, or ends right before it
pub record IsNear (g : GraphView) (u a : ℕ) : Type 0 where
  pub within : a < length g.actions
  pub begun : (action_of g a).first_unit ≤ u
  pub ends : u ≤ (action_of g a).first_unit + units_in (action_of g a)

abbrev pub graph_value : Inside → GraphView
graph_value g = record {
  locks = g.locks;
  all = g.all;
  workers = g.workers;
  max_leases = g.max_leases;
  units = g.units;
  tasks = g.tasks;
  actions = g.actions.items;
}

-- it fits, and the actions that were noted are those of its units
pub record IsGraph (g : Inside) : Type 0 where
  pub fits : Fits (graph_value g)
  pub unit_actions : IfSome g.unit_actions (λ actions. HasUnitActions (graph_value g) g.units actions.items)
