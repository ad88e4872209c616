-- The graph that is made of these parts.
use Rattle.std.specs.Prelude.{ℕ, List, Option, sum_by}
use Rattle.resource_lock.specs.GraphView.{GraphTaskView, GraphView}
use Rattle.resource_lock.specs.Ranges.{units_in}
use Rattle.resource_lock.specs.declared.ids.LockId.{LockId}
use Rattle.resource_lock.specs.declared.graphs.GraphAction.{GraphAction}

-- its units are those that its actions have
abbrev pub made_of : ℕ → Option LockId → ℕ → ℕ → List GraphTaskView → List GraphAction → GraphView
made_of locks all workers max_leases tasks actions = record {
  locks = locks;
  all = all;
  workers = workers;
  max_leases = max_leases;
  units = sum_by units_in actions;
  tasks = tasks;
  actions = actions;
}
