-- A plan that is made by calls.
use Rattle.std.specs.Prelude.{ℕ, ◌≡◌, ◌⊎◌, ◌+◌, ◌<◌, ◌≤◌, ◌-◌, nat_lt, Bool, true, false, List, [], ◌∷◌, ◌++◌, Vec, Option, Some, None, ⊤}
use Rattle.std.specs.Prelude.{length, map, set, slice_get, slice_index_or, sum_by}
use Rattle.std.specs.List.{All, list_all}
use Rattle.std.specs.declared.alloc.Global.{Global}
use Rattle.lock_journal.specs.Names.{fetches, Retention, Retain, Release, ReleaseAndReacquire, LockId, MAX_UNITS, MAX_ACTIONS_PER_TASK, MAX_AFTER}
use Rattle.resource_lock.specs.declared.limits.TheConstants.{MAX_LOCKS, MAX_TASKS}
use Rattle.ready_work.specs.Rank.{lists_of}
use Rattle.planned_work.specs.declared.plans.PlanRefusal.{PlanRefusal}
use Rattle.planned_work.specs.declared.plans.PlanRefusal.TheVariants.{BadNumber, TooMany, Misused, NoMemory}
use Rattle.planned_work.specs.declared.plans.PlannedAction.{PlannedAction}
use Rattle.planned_work.specs.declared.plans.PlannedTask.{PlannedTask}

-- a task's lock and its actions in order
pub record PlannedTaskView : Type 0 where
  pub lock : LockId
  pub actions : List PlannedAction

-- how many project locks there are, the tasks, and for each task those that it comes after
pub record WorkPlanView : Type 0 where
  pub locks : ℕ
  pub tasks : List PlannedTaskView
  pub after : List (List ℕ)

abbrev pub planned_task_view : PlannedTask → PlannedTaskView
planned_task_view t = record { lock = t.lock; actions = t.actions.items }

abbrev pub plan_view : ℕ → List PlannedTask → List (Vec ℕ Global) → WorkPlanView
plan_view locks tasks after = record { locks = locks; tasks = map planned_task_view tasks; after = lists_of after }

abbrev pub no_task : PlannedTaskView
no_task = record { lock = record { 0 = 0 }; actions = [] }

abbrev pub task_in_plan : WorkPlanView → ℕ → PlannedTaskView
task_in_plan p t = slice_index_or p.tasks t no_task

abbrev pub names_in_plan : WorkPlanView → ℕ → List ℕ
names_in_plan p t = slice_index_or p.after t []

-- how many units an action has, those of a task, and those of the plan
abbrev pub units_of_action : PlannedAction → ℕ
units_of_action a = a.items + fetches a.fetch

abbrev pub units_of_task : PlannedTaskView → ℕ
units_of_task t = sum_by units_of_action t.actions

abbrev pub units_of_plan : WorkPlanView → ℕ
units_of_plan p = sum_by units_of_task p.tasks

-- the action gives the lock back for good
abbrev pub is_release : Retention → Bool
is_release Release = true
is_release Retain = false
is_release ReleaseAndReacquire = false

abbrev pub releases_at : Option PlannedAction → Bool
releases_at (Some a) = is_release a.retention
releases_at None = false

-- the last action does
abbrev pub releases : List PlannedAction → Bool
releases as' = releases_at (slice_get as' (length as' - 1))

-- no action but the last does
abbrev pub ReleaseLast : List PlannedAction → Type 0
ReleaseLast as' = (k : ℕ) (d : PlannedAction) → k + 1 < length as' → is_release (slice_index_or as' k d).retention ≡ false

-- What holds of each plan, beside what is tested where its graph is made.
pub record IsPlanView (p : WorkPlanView) : Type 0 where
  pub few_locks : p.locks < MAX_LOCKS
  pub few_tasks : length p.tasks ≤ MAX_TASKS
  pub names : length p.after ≡ length p.tasks
  pub some_item : All (λ t. All (λ a. 0 < a.items) t.actions) p.tasks
  pub release_last : All (λ t. ReleaseLast t.actions) p.tasks
  pub few_units : units_of_plan p ≤ MAX_UNITS

pub record IsWorkPlan (p : WorkPlanView) (units : ℕ) : Type 0 where
  pub is : IsPlanView p
  pub counted : units ≡ units_of_plan p

-- the plan without tasks
abbrev pub empty_plan : ℕ → WorkPlanView
empty_plan locks = record { locks = locks; tasks = []; after = [] }

-- the lock of this number, or the one behind all, which is the all-projects lock
abbrev pub lock_in : WorkPlanView → Option ℕ → ℕ
lock_in p (Some l) = l
lock_in p None = p.locks

-- the plan with a task more, with names more of a task, and with an action more behind those of a task
abbrev pub with_task : ℕ → WorkPlanView → WorkPlanView
with_task lock p = record {
  locks = p.locks;
  tasks = p.tasks ++ record { lock = record { 0 = lock }; actions = [] } ∷ [];
  after = p.after ++ [] ∷ [];
}

abbrev pub with_names : ℕ → List ℕ → WorkPlanView → WorkPlanView
with_names t before p = record { locks = p.locks; tasks = p.tasks; after = set p.after t (names_in_plan p t ++ before) }

abbrev pub with_action : ℕ → PlannedAction → WorkPlanView → WorkPlanView
with_action t a p = record {
  locks = p.locks;
  tasks = set p.tasks t (record { lock = (task_in_plan p t).lock; actions = (task_in_plan p t).actions ++ a ∷ [] });
  after = p.after;
}

-- these are tasks among so many
abbrev pub names_are_made : ℕ → List ℕ → Bool
names_are_made tasks names = list_all (λ n. nat_lt n tasks) names

-- Why a call is refused.
abbrev pub WhyNoPlan : ℕ → PlanRefusal → Type 0
WhyNoPlan locks BadNumber = MAX_LOCKS ≤ locks
WhyNoPlan locks _ = ⊥

abbrev pub WhyNoTask : WorkPlanView → Option ℕ → PlanRefusal → Type 0
WhyNoTask p lock BadNumber = p.locks < lock_in p lock
WhyNoTask p lock TooMany = MAX_TASKS ≤ length p.tasks
WhyNoTask p lock NoMemory = ⊤
WhyNoTask p lock Misused = ⊥

abbrev pub WhyNoNames : WorkPlanView → ℕ → List ℕ → PlanRefusal → Type 0
WhyNoNames p t before BadNumber = (length p.tasks ≤ t) ⊎ (names_are_made (length p.tasks) before ≡ false)
WhyNoNames p t before TooMany = MAX_AFTER < length (names_in_plan p t) + length before
WhyNoNames p t before NoMemory = ⊤
WhyNoNames p t before Misused = ⊥

abbrev pub WhyNoAction : WorkPlanView → ℕ → PlannedAction → PlanRefusal → Type 0
WhyNoAction p t a BadNumber = (length p.tasks ≤ t) ⊎ (a.items ≡ 0)
WhyNoAction p t a Misused = releases (task_in_plan p t).actions ≡ true
WhyNoAction p t a TooMany = (MAX_ACTIONS_PER_TASK ≤ length (task_in_plan p t).actions) ⊎ (MAX_UNITS < units_of_plan p + units_of_action a)
WhyNoAction p t a NoMemory = ⊤
