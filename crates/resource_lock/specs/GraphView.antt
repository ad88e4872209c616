-- A graph, as contracts see it.
use Rattle.std.specs.Prelude.{ℕ, List, [], Option, false, slice_index_or}
use Rattle.resource_lock.specs.declared.ids.LockId.{LockId}
use Rattle.resource_lock.specs.declared.graphs.Retention.TheVariants.{Retain}
use Rattle.resource_lock.specs.declared.graph_tasks.GraphTask.{GraphTask}
use Rattle.resource_lock.specs.declared.graphs.GraphAction.{GraphAction}

-- a task, with those that it comes after
pub record GraphTaskView : Type 0 where
  pub lock : LockId
  pub after : List ℕ
  pub first_action : ℕ
  pub actions : ℕ

pub record GraphView : Type 0 where
  pub locks : ℕ
  pub all : Option LockId
  pub workers : ℕ
  pub max_leases : ℕ
  pub units : ℕ
  pub tasks : List GraphTaskView
  pub actions : List GraphAction

abbrev pub no_task : GraphTaskView
no_task = record { lock = record { 0 = 0 }; after = []; first_action = 0; actions = 0 }

abbrev pub no_row : GraphTask
no_row = record { lock = record { 0 = 0 }; first_action = 0; actions = 0 }

abbrev pub no_action : GraphAction
no_action = record { task = 0; retention = Retain; fetch = false; first_unit = 0; items = 0 }

abbrev pub task_of : GraphView → ℕ → GraphTaskView
task_of g t = slice_index_or g.tasks t no_task

abbrev pub action_of : GraphView → ℕ → GraphAction
action_of g a = slice_index_or g.actions a no_action
