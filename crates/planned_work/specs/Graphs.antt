-- The graph of a plan that was made by calls.
use Rattle.std.specs.Prelude.{ℕ, ◌+◌, List, [], ◌∷◌, ◌++◌, length, sum_by, Some, ⊤}
use Rattle.lock_journal.specs.Names.{Fits, GraphView, GraphTaskView, GraphAction}
use Rattle.ready_work.specs.Rank.{IsFirstCycle}
use Rattle.planned_work.specs.Plans.{PlannedTaskView, WorkPlanView, units_of_action, units_of_plan, units_of_task}
use Rattle.planned_work.specs.declared.opening.OpenRefusal.{OpenRefusal}
use Rattle.planned_work.specs.declared.opening.OpenRefusal.TheVariants.{BadNumber, Cycle, NoMemory}
use Rattle.planned_work.specs.declared.plans.PlannedAction.{PlannedAction}

-- how many actions the tasks have
abbrev pub actions_in : List PlannedTaskView → ℕ
actions_in = sum_by (λ t. length t.actions)

-- the tasks with the names that each comes after, whose actions are numbered from this one on
abbrev pub rows_from : ℕ → List PlannedTaskView → List (List ℕ) → List GraphTaskView
rows_from first [] names = []
rows_from first (t ∷ ts) [] = []
rows_from first (t ∷ ts) (n ∷ ns) =
    record { lock = t.lock; after = n; first_action = first; actions = length t.actions } ∷ rows_from (first + length t.actions) ts ns

-- the actions of a task, whose units are numbered from this one on
abbrev pub actions_from : ℕ → ℕ → List PlannedAction → List GraphAction
actions_from task first [] = []
actions_from task first (a ∷ as') =
    record { task = task; retention = a.retention; fetch = a.fetch; first_unit = first; items = a.items } ∷ actions_from task (first + units_of_action a) as'

-- the actions of all tasks from this one on
abbrev pub all_actions_from : ℕ → ℕ → List PlannedTaskView → List GraphAction
all_actions_from task first [] = []
all_actions_from task first (t ∷ ts) = actions_from task first t.actions ++ all_actions_from (task + 1) (first + units_of_task t) ts

-- one lock more than the plan has, which is the all-projects lock
abbrev pub graph_of_plan : WorkPlanView → ℕ → ℕ → GraphView
graph_of_plan p workers max_leases = record {
  locks = p.locks + 1;
  all = Some (record { 0 = p.locks });
  workers = workers;
  max_leases = max_leases;
  units = units_of_plan p;
  tasks = rows_from 0 p.tasks p.after;
  actions = all_actions_from 0 0 p.tasks;
}

-- Why there is no graph to work on: its numbers aren't in range, or a task has no rank.
abbrev pub WhyNoGraph : WorkPlanView → ℕ → ℕ → OpenRefusal → Type 0
WhyNoGraph p workers max_leases BadNumber = Fits (graph_of_plan p workers max_leases) → ⊥
WhyNoGraph p workers max_leases Cycle = (t : ℕ) × IsFirstCycle p.after (Some t)
WhyNoGraph p workers max_leases NoMemory = ⊤
