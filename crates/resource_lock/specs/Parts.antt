-- Which tasks and actions fit in a graph.
use Rattle.std.specs.Prelude.{ℕ, ◌<◌, ◌≤◌, List, length, slice_index_or}
use Rattle.std.specs.List.{All}
use Rattle.resource_lock.specs.GraphView.{GraphTaskView, no_row}
use Rattle.resource_lock.specs.Ranges.{IsIn}
use Rattle.resource_lock.specs.declared.graph_tasks.GraphTask.{GraphTask}
use Rattle.resource_lock.specs.declared.graphs.GraphAction.{GraphAction}
use Rattle.resource_lock.specs.declared.limits.TheConstants.{MAX_ACTIONS_PER_TASK, MAX_AFTER}

-- In a graph of so many locks and tasks, a task's lock and the tasks that it comes after are there, and it has no more
-- actions and no more such tasks than it may.
abbrev pub IsFitTask : ℕ → ℕ → GraphTaskView → Type 0
IsFitTask locks tasks t = (t.actions ≤ MAX_ACTIONS_PER_TASK) × (length t.after ≤ MAX_AFTER) × (t.lock.0 < locks) × All (λ p. p < tasks) t.after

-- The action of this number has an item, and is in its task's range.
abbrev pub IsFitAction : List GraphTask → ℕ → GraphAction → Type 0
IsFitAction tasks n a = (0 < a.items) × IsIn (slice_index_or tasks a.task no_row).first_action (slice_index_or tasks a.task no_row).actions n
