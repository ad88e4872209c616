-- Graphs by rows of numbers.
use Rattle.std.specs.Prelude.{ℕ, List, [], ◌∷◌, Option, None, Some, map, sum_by}
use Rattle.lock_journal.specs.Names.{GraphTaskView, GraphView, units_in, GraphAction}
use Rattle.state_tests.specs.declared.rows.Limits.{Limits}
use Rattle.state_tests.specs.declared.rows.TaskRow.{TaskRow}

abbrev pub as_list : Option ℕ → List ℕ
as_list None = []
as_list (Some n) = n ∷ []

abbrev pub task_view : TaskRow → GraphTaskView
task_view row = record { lock = record { 0 = row.lock }; after = as_list row.after; first_action = row.first_action; actions = row.actions }

abbrev pub graph_of_rows : Limits → List TaskRow → List GraphAction → GraphView
graph_of_rows limits rows actions = record {
  locks = limits.locks;
  all = limits.all;
  workers = limits.workers;
  max_leases = limits.max_leases;
  units = sum_by units_in actions;
  tasks = map task_view rows;
  actions = actions;
}
