-- What holds of every plan that was read.
use Rattle.std.specs.Prelude.{ℕ, ◌≡◌, ◌≢◌, ◌+◌, ◌<◌, ◌≤◌, true, List, map, length, slice_index_or}
use Rattle.std.specs.List.{All, AllPairs}
use Rattle.resource_lock.specs.declared.graphs.Retention.TheVariants.{Release}
use Rattle.daemon_requirements.specs.RequirementsView.{RequirementsView}
use Rattle.ready_work.specs.Rank.{Ranked}
use Rattle.item_actions.specs.Forms.{is_file_name}
use Rattle.plan_table.specs.Forms.{is_name}
use Rattle.plan_table.specs.Formed.{IsFetch}
use Rattle.plan_reader.specs.declared.limits.TheConstants.{MAX_PROJECTS, MAX_TASKS, MAX_UNITS, MAX_REQUIREMENTS, MAX_ACTIONS_PER_TASK, MAX_AFTER, MAX_LISTED}
use Rattle.plan_reader.specs.PlanView.{PlanActionView, PlanTaskView, PlanView}
use Rattle.plan_reader.specs.Units.{plan_units}

-- the names of its files have their form
pub record HasFileNames (a : PlanActionView) : Type 0 where
  pub fetch : IsFetch a.fetch
  pub items : All (λ w. is_file_name w.file ≡ true) a.items

-- an action that isn't the last keeps the project lock, or takes it again
abbrev pub ReleasesLast : List PlanActionView → Type 0
ReleasesLast as' = (k : ℕ) (d : PlanActionView) → k + 1 < length as' → (slice_index_or as' k d).retention ≢ Release

-- few arguments, properties and variables each
pub record HasFewLists (p : RequirementsView) : Type 0 where
  pub args : length p.args ≤ MAX_LISTED
  pub properties : length p.properties ≤ MAX_LISTED
  pub variables : length p.variables ≤ MAX_LISTED

-- for each task the tasks that it stands after
abbrev pub dependencies : List PlanTaskView → List (List ℕ)
dependencies ts = map (λ t. t.after) ts

pub record IsPlan (p : PlanView) : Type 0 where
  pub few_projects : length p.projects ≤ MAX_PROJECTS
  pub few_tasks : length p.tasks ≤ MAX_TASKS
  pub few_units : length (plan_units p) ≤ MAX_UNITS
  pub few_requirements : length p.requirements ≤ MAX_REQUIREMENTS
  pub few_actions : All (λ t. length t.actions ≤ MAX_ACTIONS_PER_TASK) p.tasks
  pub few_after : All (λ t. length t.after ≤ MAX_AFTER) p.tasks
  pub few_lists : All HasFewLists p.requirements
  pub project_names : All (λ n. is_name n ≡ true) p.projects
  pub task_names : All (λ t. is_name t.name ≡ true) p.tasks
  pub own_projects : AllPairs (λ m n. m ≢ n) p.projects
  pub own_tasks : AllPairs (λ t u. t.name ≢ u.name) p.tasks
  pub project_within : All (λ t. t.project < length p.projects) p.tasks
  pub after_within : All (λ t. All (λ u. u < length p.tasks) t.after) p.tasks
  pub ranked : (t : ℕ) → t < length p.tasks → Ranked (dependencies p.tasks) t
  pub some_item : All (λ t. All (λ a. 0 < length a.items) t.actions) p.tasks
  pub release_last : All (λ t. ReleasesLast t.actions) p.tasks
  pub file_names : All (λ t. All HasFileNames t.actions) p.tasks
