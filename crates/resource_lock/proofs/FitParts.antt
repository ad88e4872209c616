-- A graph fits where its numbers, its tasks and its ranges do.
use Rattle.std.proofs.Common.{◌≡◌, ℕ, Option, ◌<◌, ◌≤◌, List, length, get_or, sym, ap, ◌∙◌, subst}
use Rattle.std.specs.List.{All, sum_by}
use Rattle.std.specs.Prelude.{IfSome}
use Rattle.std.proofs.lemmas.List.Elements.{All-from_get_or}
use Rattle.resource_lock.specs.GraphView.{GraphTaskView, no_action, no_row, no_task}
use Rattle.resource_lock.specs.GraphTasks.{tasks_from}
use Rattle.resource_lock.specs.Ranges.{IsIn, units_in}
use Rattle.resource_lock.specs.Parts.{IsFitTask, IsFitAction}
use Rattle.resource_lock.specs.Fits.{Fits, Follow}
use Rattle.resource_lock.specs.Made.{made_of}
use Rattle.resource_lock.specs.declared.ids.LockId.{LockId}
use Rattle.resource_lock.specs.declared.graph_tasks.GraphTask.{GraphTask}
use Rattle.resource_lock.specs.declared.graphs.GraphAction.{GraphAction}
use Rattle.resource_lock.specs.declared.limits.TheConstants.{MAX_WORKERS, MAX_LEASES, MAX_LOCKS, MAX_TASKS, MAX_UNITS, MAX_ACTIONS_PER_TASK, MAX_AFTER}
use Rattle.resource_lock.proofs.TaskRows.{actions_at, first_at, follow_with, follow_without}

abbrev pub NumbersFit : ℕ → Option LockId → ℕ → ℕ → ℕ → Type 0
NumbersFit locks all workers max_leases tasks = (1 ≤ workers) × (workers ≤ MAX_WORKERS) × (1 ≤ max_leases) × (max_leases ≤ MAX_LEASES) × (locks ≤ MAX_LOCKS) × (tasks ≤ MAX_TASKS) × IfSome all (λ l. l.0 < locks)

abbrev pub TasksFit : ℕ → List GraphTaskView → Type 0
TasksFit locks tasks = (t : ℕ) → t < length tasks → IsFitTask locks (length tasks) (get_or tasks t no_task)

abbrev pub RangesFit : List GraphTask → List GraphAction → Type 0
RangesFit rows actions =
    (Follow (λ t. t.first_action) (λ t. t.actions) 0 rows (length actions))
    × ((a : ℕ) → a < length actions → IsFitAction rows a (get_or actions a no_action))
    × (Follow (λ a. a.first_unit) units_in 0 actions (sum_by units_in actions))
    × (sum_by units_in actions ≤ MAX_UNITS)

-- the tasks are those of these rows, with some lists
abbrev pub AreRowsOf : List GraphTaskView → List GraphTask → Type 0
AreRowsOf tasks rows = (lists : List (List ℕ)) × (tasks_from rows lists ≡ tasks)

-- the range of a task's actions is that of its row
first_is : (tasks : List GraphTaskView) (rows : List GraphTask) → AreRowsOf tasks rows → (t : ℕ) → (get_or tasks t no_task).first_action ≡ (get_or rows t no_row).first_action
first_is tasks rows are t = ap (λ (ts : List GraphTaskView). (get_or ts t no_task).first_action) (sym are.1) ∙ first_at rows are.0 t

actions_are : (tasks : List GraphTaskView) (rows : List GraphTask) → AreRowsOf tasks rows → (t : ℕ) → (get_or tasks t no_task).actions ≡ (get_or rows t no_row).actions
actions_are tasks rows are t = ap (λ (ts : List GraphTaskView). (get_or ts t no_task).actions) (sym are.1) ∙ actions_at rows are.0 t

each_item : (actions : List GraphAction) → ((a : ℕ) → a < length actions → 0 < (get_or actions a no_action).items) → All (λ a. 0 < a.items) actions
each_item actions h = All-from_get_or (λ a. 0 < a.items) actions no_action h

each_task : (P : GraphTaskView → Type 0) (tasks : List GraphTaskView) → ((t : ℕ) → t < length tasks → P (get_or tasks t no_task)) → All P tasks
each_task P tasks h = All-from_get_or P tasks no_task h

pub fits_from : (locks : ℕ) (all : Option LockId) (workers max_leases : ℕ) (tasks : List GraphTaskView) (rows : List GraphTask) (actions : List GraphAction) → AreRowsOf tasks rows → NumbersFit locks all workers max_leases (length tasks) → TasksFit locks tasks → RangesFit rows actions → Fits (made_of locks all workers max_leases tasks actions)
fits_from locks all workers max_leases tasks rows actions are numbers each ranges = record {
  some_worker = numbers.0;
  few_workers = numbers.1;
  some_lease = numbers.2;
  few_leases = numbers.3;
  few_locks = numbers.4;
  all_within = numbers.6;
  few_tasks = numbers.5;
  few_units = ranges.3;
  few_actions = each_task (λ t. t.actions ≤ MAX_ACTIONS_PER_TASK) tasks (λ t within. (each t within).0);
  few_after = each_task (λ t. length t.after ≤ MAX_AFTER) tasks (λ t within. (each t within).1);
  locks_within = each_task (λ t. t.lock.0 < locks) tasks (λ t within. (each t within).2);
  after_within = each_task (λ t. All (λ p. p < length tasks) t.after) tasks (λ t within. (each t within).3);
  actions_follow = subst (λ ts. Follow (λ (t : GraphTaskView). t.first_action) (λ (t : GraphTaskView). t.actions) 0 ts (length actions)) are.1 (follow_with 0 rows are.0 (length actions) ranges.0);
  units_follow = ranges.2;
  own_task = λ a within.
      let t : ℕ = (get_or actions a no_action).task in
      subst (λ first. IsIn first (get_or tasks t no_task).actions a) (sym (first_is tasks rows are t))
      (subst (λ count. IsIn (get_or rows t no_row).first_action count a) (sym (actions_are tasks rows are t)) (ranges.1 a within).1);
  some_item = each_item actions (λ a within. (ranges.1 a within).0);
}

pub numbers_of : (locks : ℕ) (all : Option LockId) (workers max_leases : ℕ) (tasks : List GraphTaskView) (actions : List GraphAction) → Fits (made_of locks all workers max_leases tasks actions) → NumbersFit locks all workers max_leases (length tasks)
numbers_of locks all workers max_leases tasks actions fits = (fits.some_worker, fits.few_workers, fits.some_lease, fits.few_leases, fits.few_locks, fits.few_tasks, fits.all_within)

pub tasks_of : (locks : ℕ) (all : Option LockId) (workers max_leases : ℕ) (tasks : List GraphTaskView) (actions : List GraphAction) → Fits (made_of locks all workers max_leases tasks actions) → TasksFit locks tasks
tasks_of locks all workers max_leases tasks actions fits = λ t within. (fits.few_actions t no_task within, fits.few_after t no_task within, fits.locks_within t no_task within, fits.after_within t no_task within)

pub ranges_of : (locks : ℕ) (all : Option LockId) (workers max_leases : ℕ) (tasks : List GraphTaskView) (rows : List GraphTask) (actions : List GraphAction) → AreRowsOf tasks rows → Fits (made_of locks all workers max_leases tasks actions) → RangesFit rows actions
ranges_of locks all workers max_leases tasks rows actions are fits = (
  follow_without 0 rows are.0 (length actions) (subst (λ ts. Follow (λ (t : GraphTaskView). t.first_action) (λ (t : GraphTaskView). t.actions) 0 ts (length actions)) (sym are.1) fits.actions_follow),
  λ a within.
      let t : ℕ = (get_or actions a no_action).task in (
        fits.some_item a no_action within,
        subst (λ first. IsIn first (get_or rows t no_row).actions a) (first_is tasks rows are t)
            (subst (λ count. IsIn (get_or tasks t no_task).first_action count a) (actions_are tasks rows are t) (fits.own_task a within)),
      ),
  fits.units_follow,
  fits.few_units,
)
