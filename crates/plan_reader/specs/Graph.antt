-- The graph of a plan.
use Rattle.std.specs.Prelude.{ℕ, ◌+◌, Bool, List, [], ◌∷◌, ◌++◌, length, Some, is_some, if◌then◌else◌}
use Rattle.resource_lock.specs.GraphView.{GraphView, GraphTaskView}
use Rattle.resource_lock.specs.ProjectLocks.{project_lock, project_lock_count}
use Rattle.resource_lock.specs.declared.ids.LockId.{LockId}
use Rattle.resource_lock.specs.declared.graphs.GraphAction.{GraphAction}
use Rattle.plan_reader.specs.PlanView.{PlanActionView, PlanTaskView, PlanView}
use Rattle.plan_reader.specs.Units.{action_units, plan_units}

-- the all-projects lock, behind those of the projects
abbrev pub all_projects_lock : PlanView → Bool → LockId
all_projects_lock p parallel = record { 0 = project_lock_count parallel (length p.projects) }

-- a task that asks for all projects has the all-projects lock, and any other has its project's
abbrev pub task_lock : LockId → Bool → PlanTaskView → LockId
task_lock all parallel t = if t.all_projects then all else project_lock parallel t.project

-- the tasks with these locks, whose actions are numbered from this one on
abbrev pub tasks_from : (PlanTaskView → LockId) → ℕ → List PlanTaskView → List GraphTaskView
tasks_from lock first [] = []
tasks_from lock first (t ∷ ts) = record {
  lock = lock t;
  after = t.after;
  first_action = first;
  actions = length t.actions;
} ∷ tasks_from lock (first + length t.actions) ts

-- the actions of a task, whose units are numbered from this one on
abbrev pub actions_from : ℕ → ℕ → List PlanActionView → List GraphAction
actions_from task first [] = []
actions_from task first (a ∷ as') = record {
  task = task;
  retention = a.retention;
  fetch = is_some a.fetch;
  first_unit = first;
  items = length a.items;
} ∷ actions_from task (first + length (action_units a)) as'

abbrev pub units_in_all : List PlanActionView → ℕ
units_in_all [] = 0
units_in_all (a ∷ as') = length (action_units a) + units_in_all as'

-- the actions of all tasks from this one on
abbrev pub all_actions_from : ℕ → ℕ → List PlanTaskView → List GraphAction
all_actions_from task first [] = []
all_actions_from task first (t ∷ ts) = actions_from task first t.actions ++ all_actions_from (task + 1) (first + units_in_all t.actions) ts

-- one lock more than those of the projects, the last being the all-projects lock
abbrev pub graph_of : PlanView → ℕ → ℕ → Bool → GraphView
graph_of p workers max_leases parallel = record {
  locks = project_lock_count parallel (length p.projects) + 1;
  all = Some (all_projects_lock p parallel);
  workers = workers;
  max_leases = max_leases;
  units = length (plan_units p);
  tasks = tasks_from (task_lock (all_projects_lock p parallel) parallel) 0 p.tasks;
  actions = all_actions_from 0 0 p.tasks;
}
