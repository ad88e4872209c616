-- Actions and units by their places in a plan.
use Rattle.std.specs.Prelude.{ℕ, ◌≡◌, ◌+◌, ◌<◌, [], map, Option, Some, None, length}
use Rattle.lock_journal.specs.Names.{GraphView, GraphTaskView, action_of, task_of, IsActionOf, IsFetchOf, IsItemOf, first_item}
use Rattle.planned_work.specs.declared.numbers.Numbered.{Numbered}

-- the task without the names that it comes after
abbrev pub task_without_names : GraphTaskView → GraphTaskView
task_without_names t = record { lock = t.lock; after = []; first_action = t.first_action; actions = t.actions }

-- the graph without the names that its tasks come after
abbrev pub without_names : GraphView → GraphView
without_names g = record {
  locks = g.locks;
  all = g.all;
  workers = g.workers;
  max_leases = g.max_leases;
  units = g.units;
  tasks = map task_without_names g.tasks;
  actions = g.actions;
}

-- The action is the one at this place of the task.
pub record IsActionAt (g : GraphView) (a task place : ℕ) : Type 0 where
  pub task_is : task < length g.tasks
  pub own : IsActionOf g task a
  pub number : a ≡ (task_of g task).first_action + place

-- the unit is the item at this place of the action, or its fetch
abbrev pub IsUnitIn : GraphView → ℕ → ℕ → Option ℕ → Type 0
IsUnitIn g a u (Some i) = IsItemOf g a u × (u ≡ first_item (action_of g a) + i)
IsUnitIn g a u None = IsFetchOf g a u

-- the unit is the one at this place
abbrev pub IsUnitAt : GraphView → ℕ → Numbered → Type 0
IsUnitAt g u at = (a : ℕ) × IsActionAt g a at.task at.action × IsUnitIn g a u at.item
