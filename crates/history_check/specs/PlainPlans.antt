-- Plans without a task that asks for all projects, and their graphs as they were before there was an all-projects lock.
use Rattle.std.specs.Prelude.{ℕ, ◌≡◌, Bool, false, None, length}
use Rattle.std.specs.List.{AllByRecursion}
use Rattle.resource_lock.specs.GraphView.{GraphView}
use Rattle.resource_lock.specs.ProjectLocks.{project_lock, project_lock_count}
use Rattle.plan_reader.specs.Graph.{all_actions_from, tasks_from}
use Rattle.plan_reader.specs.PlanView.{PlanView}
use Rattle.plan_reader.specs.Units.{plan_units}

-- no task asks for all projects
abbrev pub IsPlain : PlanView → Type 0
IsPlain p = AllByRecursion (λ t. t.all_projects ≡ false) p.tasks

-- each task has its project's lock, and there is no lock but those
abbrev pub graph_before : PlanView → ℕ → ℕ → Bool → GraphView
graph_before p workers max_leases parallel = record {
  locks = project_lock_count parallel (length p.projects);
  all = None;
  workers = workers;
  max_leases = max_leases;
  units = length (plan_units p);
  tasks = tasks_from (λ t. project_lock parallel t.project) 0 p.tasks;
  actions = all_actions_from 0 0 p.tasks;
}
