-- The tasks of a graph, made of what is stored of them.
use Rattle.std.specs.Prelude.{ℕ, List, [], ◌∷◌, drop, slice_index_or}
use Rattle.resource_lock.specs.GraphView.{GraphTaskView}
use Rattle.resource_lock.specs.declared.graph_tasks.GraphTask.{GraphTask}

-- a task, which comes after these
abbrev pub graph_view : GraphTask → List ℕ → GraphTaskView
graph_view t after = record { lock = t.lock; after = after; first_action = t.first_action; actions = t.actions }

-- the tasks, each with the list at its place
abbrev pub tasks_from : List GraphTask → List (List ℕ) → List GraphTaskView
tasks_from [] lists = []
tasks_from (t ∷ ts) lists = graph_view t (slice_index_or lists 0 []) ∷ tasks_from ts (drop 1 lists)
