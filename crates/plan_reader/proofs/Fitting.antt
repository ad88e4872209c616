-- The graph of a plan fits.
use Rattle.std.proofs.Common.{◌≡◌, ◌⊎◌, ◌+◌, ◌-◌, ◌<◌, ◌≤◌, ℕ, zero, suc, Bool, true, false, cond, List, [], ◌∷◌, ◌++◌, map, length, get_or, Option, None, Some, is_some, refl, ap, sym, subst, ◌∙◌, inl, inr, arith, length-append}
use Rattle.std.specs.List.{All, flat_map, sum_by}
use Rattle.std.proofs.lemmas.Bool.{cases_lt}
use Rattle.std.proofs.lemmas.List.{length-map, get_or_append_left, get_or-append_right}
use Rattle.std.proofs.lemmas.List.Elements.{All-nil, All-cons, All-append}
use Rattle.std.proofs.lemmas.List.Sums.{sum_by-cons, sum_by-append}
use Rattle.resource_lock.specs.declared.ids.LockId.{LockId}
use Rattle.resource_lock.specs.declared.graphs.GraphAction.{GraphAction}
use Rattle.resource_lock.specs.GraphView.{GraphTaskView, no_task, no_action}
use Rattle.resource_lock.specs.Made.{made_of}
use Rattle.resource_lock.specs.Ranges.{fetches, units_in, IsIn}
use Rattle.resource_lock.specs.Fits.{Follow, Fits}
use Rattle.resource_lock.specs.declared.limits.TheConstants as state
use Rattle.plan_reader.specs.declared.limits.TheConstants.{MAX_LEASES, MAX_PROJECTS, MAX_WORKERS}
use Rattle.plan_reader.specs.PlanView.{PlanActionView, PlanTaskView, PlanView}
use Rattle.plan_reader.specs.Units.{fetch_units, item_unit, action_units, task_units, plan_units}
use Rattle.plan_reader.specs.IsPlan.{IsPlan}
use Rattle.resource_lock.specs.ProjectLocks.{project_lock, project_lock_count}
use Rattle.plan_reader.specs.Graph.{all_projects_lock, task_lock, tasks_from, actions_from, units_in_all, all_actions_from, graph_of}

-- ---- tasks

abbrev pub task_outline : (PlanTaskView → LockId) → ℕ → PlanTaskView → GraphTaskView
task_outline lock first t = record { lock = lock t; after = t.after; first_action = first; actions = length t.actions }

each_task : (P : GraphTaskView → Type 0) (lock : PlanTaskView → LockId) (first : ℕ) (ts : List PlanTaskView)
    → ((k : ℕ) (d : PlanTaskView) → k < length ts → (n : ℕ) → P (task_outline lock n (get_or ts k d))) → All P (tasks_from lock first ts)
each_task P lock first [] each = All-nil P
each_task P lock first (t ∷ ts) each =
    All-cons P (task_outline lock first t) (tasks_from lock (first + length t.actions) ts) (each 0 t (omega arith) first)
    (each_task P lock (first + length t.actions) ts (λ k d within. each (suc k) d (omega arith)))

length-tasks_from : (lock : PlanTaskView → LockId) (first : ℕ) (ts : List PlanTaskView) → length (tasks_from lock first ts) ≡ length ts
length-tasks_from lock first [] = refl
length-tasks_from lock first (t ∷ ts) = ap suc (length-tasks_from lock (first + length t.actions) ts)

project_lock_within : (parallel : Bool) (project projects : ℕ) → project < projects → (project_lock parallel project).0 < project_lock_count parallel projects
project_lock_within true project projects within = within
project_lock_within false project projects within = omega arith

-- a project's lock stands before the all-projects lock, and that is the last
lock_within : (of_all parallel : Bool) (project projects : ℕ) → project < projects → (cond of_all (record { 0 = project_lock_count parallel projects }) (project_lock parallel project)).0 < project_lock_count parallel projects + 1
lock_within true parallel project projects within = omega arith
lock_within false parallel project projects within = omega (arith, project_lock_within parallel project projects within)

pub few_locks : (parallel : Bool) (projects : ℕ) → projects ≤ MAX_PROJECTS → project_lock_count parallel projects + 1 ≤ state.MAX_LOCKS
few_locks true projects few = omega (arith, few)
few_locks false projects few = omega (arith, few)

-- ---- actions

length-actions_from : (task first : ℕ) (as' : List PlanActionView) → length (actions_from task first as') ≡ length as'
length-actions_from task first [] = refl
length-actions_from task first (a ∷ as') = ap suc (length-actions_from task (first + length (action_units a)) as')

some_items : (task first : ℕ) (as' : List PlanActionView) → All (λ a. 0 < length a.items) as' → All (λ a. 0 < a.items) (actions_from task first as')
some_items task first [] some = All-nil (λ a. 0 < a.items)
some_items task first (a ∷ as') some =
    All-cons (λ a. 0 < a.items) _ (actions_from task (first + length (action_units a)) as') (some 0 a (omega arith))
    (some_items task (first + length (action_units a)) as' (λ k d within. some (suc k) d (omega arith)))

all_some_items : (task first : ℕ) (ts : List PlanTaskView) → All (λ t. All (λ a. 0 < length a.items) t.actions) ts → All (λ a. 0 < a.items) (all_actions_from task first ts)
all_some_items task first [] some = All-nil (λ a. 0 < a.items)
all_some_items task first (t ∷ ts) some =
    All-append (λ a. 0 < a.items) (actions_from task first t.actions) (all_actions_from (task + 1) (first + units_in_all t.actions) ts)
    (some_items task first t.actions (some 0 t (omega arith)))
    (all_some_items (task + 1) (first + units_in_all t.actions) ts (λ k d within. some (suc k) d (omega arith)))

actions_follow : (lock : PlanTaskView → LockId) (n task first : ℕ) (ts : List PlanTaskView) (stop : ℕ) → n + length (all_actions_from task first ts) ≡ stop
    → Follow (λ t. t.first_action) (λ t. t.actions) n (tasks_from lock n ts) stop
actions_follow lock n task first [] stop e = omega arith
actions_follow lock n task first (t ∷ ts) stop e =
    let both = length-append (actions_from task first t.actions) (all_actions_from (task + 1) (first + units_in_all t.actions) ts) in
    let here = length-actions_from task first t.actions in
    (refl, actions_follow lock (n + length t.actions) (task + 1) (first + units_in_all t.actions) ts stop (omega arith))

-- ---- units

units_of_fetch : (fetch : Option (List ℕ)) → length (fetch_units fetch) ≡ fetches (is_some fetch)
units_of_fetch None = refl
units_of_fetch (Some file) = refl

units_of_action : (a : PlanActionView) → length (action_units a) ≡ length a.items + fetches (is_some a.fetch)
units_of_action a = omega (arith, length-append (fetch_units a.fetch) (map item_unit a.items), length-map a.items item_unit, units_of_fetch a.fetch)

pub units_in_all-task_units : (as' : List PlanActionView) → units_in_all as' ≡ length (flat_map action_units as')
units_in_all-task_units [] = refl
units_in_all-task_units (a ∷ as') = omega (arith, length-append (action_units a) (flat_map action_units as'), units_in_all-task_units as')

follow_append : {X : Type 0} (first count : X → ℕ) (n mid stop : ℕ) (xs ys : List X) → Follow first count n xs mid → Follow first count mid ys stop → Follow first count n (xs ++ ys) stop
follow_append first count n mid stop [] ys a b = subst (λ m. Follow first count m ys stop) (sym a) b
follow_append first count n mid stop (x ∷ xs) ys a b = (a.0, follow_append first count (n + count x) mid stop xs ys a.1 b)

units_follow : (task n : ℕ) (as' : List PlanActionView) (stop : ℕ) → n + units_in_all as' ≡ stop → Follow (λ a. a.first_unit) units_in n (actions_from task n as') stop
units_follow task n [] stop e = omega arith
units_follow task n (a ∷ as') stop e =
    let rest = units_follow task (n + length (action_units a)) as' stop (omega arith) in
    (refl, subst (λ m. Follow (λ b. b.first_unit) units_in (n + m) (actions_from task (n + length (action_units a)) as') stop) (units_of_action a) rest)

all_units_follow : (task n : ℕ) (ts : List PlanTaskView) (stop : ℕ) → n + length (flat_map task_units ts) ≡ stop → Follow (λ a. a.first_unit) units_in n (all_actions_from task n ts) stop
all_units_follow task n [] stop e = omega arith
all_units_follow task n (t ∷ ts) stop e =
    let both = length-append (task_units t) (flat_map task_units ts) in
    let here = units_in_all-task_units t.actions in
    follow_append (λ a. a.first_unit) units_in n (n + units_in_all t.actions) stop (actions_from task n t.actions) (all_actions_from (task + 1) (n + units_in_all t.actions) ts)
    (units_follow task n t.actions (n + units_in_all t.actions) refl)
    (all_units_follow (task + 1) (n + units_in_all t.actions) ts stop (omega arith))

-- ---- the task of an action

task_of_action : (task first : ℕ) (as' : List PlanActionView) (a : ℕ) → a < length as' → (get_or (actions_from task first as') a no_action).task ≡ task
task_of_action task first [] a within = absurd (omega arith)
task_of_action task first (x ∷ as') zero within = refl
task_of_action task first (x ∷ as') (suc a) within = task_of_action task (first + length (action_units x)) as' a (omega arith)

-- the action is one of the first task's, or one of a later one's
own_or_later : (lock : PlanTaskView → LockId) (n task : ℕ) (x : PlanTaskView) (ts : List PlanTaskView) (front back : List GraphAction) (a m t : ℕ) → length front ≡ length x.actions
    → a < length (front ++ back) → m ≡ n + a → (get_or (front ++ back) a no_action).task ≡ t
    → (a < length x.actions → (get_or front a no_action).task ≡ task)
    → ((b : ℕ) → b < length back → m ≡ n + length x.actions + b → (u : ℕ) → (get_or back b no_action).task ≡ u
    → (task + 1 ≤ u) × ((i : ℕ) → task + 1 + i ≡ u → IsIn (get_or (tasks_from lock (n + length x.actions) ts) i no_task).first_action (get_or (tasks_from lock (n + length x.actions) ts) i no_task).actions m))
    → (task ≤ t) × ((i : ℕ) → task + i ≡ t → IsIn (get_or (tasks_from lock n (x ∷ ts)) i no_task).first_action (get_or (tasks_from lock n (x ∷ ts)) i no_task).actions m)
own_or_later lock n task x ts front back a m t long within e is own later = at (cases_lt a (length x.actions))
  where
    mine : a < length x.actions → (i : ℕ) → task + i ≡ t → t ≡ task → IsIn (get_or (tasks_from lock n (x ∷ ts)) i no_task).first_action (get_or (tasks_from lock n (x ∷ ts)) i no_task).actions m
    mine lt zero f g = (omega arith, omega arith)
    mine lt (suc i) f g = absurd (omega arith)

    others : ((i : ℕ) → task + 1 + i ≡ t → IsIn (get_or (tasks_from lock (n + length x.actions) ts) i no_task).first_action (get_or (tasks_from lock (n + length x.actions) ts) i no_task).actions m) → task + 1 ≤ t
        → (i : ℕ) → task + i ≡ t → IsIn (get_or (tasks_from lock n (x ∷ ts)) i no_task).first_action (get_or (tasks_from lock n (x ∷ ts)) i no_task).actions m
    others h above zero f = absurd (omega arith)
    others h above (suc i) f = h i (omega arith)

    at : (a < length x.actions) ⊎ (length x.actions ≤ a) → (task ≤ t) × ((i : ℕ) → task + i ≡ t → IsIn (get_or (tasks_from lock n (x ∷ ts)) i no_task).first_action (get_or (tasks_from lock n (x ∷ ts)) i no_task).actions m)
    at (inl lt) =
        let same : t ≡ task = sym is ∙ ap (λ g. g.task) (get_or_append_left front back no_action a (omega arith)) ∙ own lt in
        (omega arith, λ i f. mine lt i f same)
    at (inr past) =
        let both = length-append front back in
        let r = later (a - length x.actions) (omega arith) (omega arith) t (sym (ap (λ g. g.task) (get_or-append_right front back (length x.actions) a no_action long past)) ∙ is) in
        (omega (arith, r.0), others r.1 r.0)

-- the task of the a-th action from this task on, and its range from n on
own_task : (lock : PlanTaskView → LockId) (n task first : ℕ) (ts : List PlanTaskView) (a m : ℕ) → a < length (all_actions_from task first ts) → m ≡ n + a
    → (t : ℕ) → (get_or (all_actions_from task first ts) a no_action).task ≡ t
    → (task ≤ t) × ((i : ℕ) → task + i ≡ t → IsIn (get_or (tasks_from lock n ts) i no_task).first_action (get_or (tasks_from lock n ts) i no_task).actions m)
own_task lock n task first [] a m within e t is = absurd (omega arith)
own_task lock n task first (x ∷ ts) a m within e t is =
    own_or_later lock n task x ts (actions_from task first x.actions) (all_actions_from (task + 1) (first + units_in_all x.actions) ts) a m t (length-actions_from task first x.actions) within e is
    (task_of_action task first x.actions a)
    (λ b lt. own_task lock (n + length x.actions) (task + 1) (first + units_in_all x.actions) ts b m lt)

pub graph_fits : (p : PlanView) (workers max_leases : ℕ) (parallel : Bool) → IsPlan p → 1 ≤ workers → workers ≤ MAX_WORKERS → 1 ≤ max_leases → max_leases ≤ MAX_LEASES → Fits (graph_of p workers max_leases parallel)
graph_fits p workers max_leases parallel h some_worker few_workers some_lease few_leases =
    let tasks : length (tasks_from (task_lock (all_projects_lock p parallel) parallel) 0 p.tasks) ≡ length p.tasks = length-tasks_from (task_lock (all_projects_lock p parallel) parallel) 0 p.tasks in
    record {
      some_worker = some_worker;
      few_workers = omega (arith, few_workers);
      some_lease = some_lease;
      few_leases = omega (arith, few_leases);
      few_locks = few_locks parallel (length p.projects) h.few_projects;
      all_within = omega arith;
      few_tasks = omega (arith, tasks, h.few_tasks);
      few_units = omega (arith, h.few_units);
      few_actions = each_task (λ t. t.actions ≤ state.MAX_ACTIONS_PER_TASK) (task_lock (all_projects_lock p parallel) parallel) 0 p.tasks (λ k d within n. omega (arith, h.few_actions k d within));
      few_after = each_task (λ t. length t.after ≤ state.MAX_AFTER) (task_lock (all_projects_lock p parallel) parallel) 0 p.tasks (λ k d within n. omega (arith, h.few_after k d within));
      locks_within = each_task (λ t. t.lock.0 < project_lock_count parallel (length p.projects) + 1) (task_lock (all_projects_lock p parallel) parallel) 0 p.tasks (λ k d within n. lock_within _ parallel _ (length p.projects) (h.project_within k d within));
      after_within = subst (λ n. All (λ t. All (λ m. m < n) t.after) (tasks_from (task_lock (all_projects_lock p parallel) parallel) 0 p.tasks)) (sym tasks) (each_task (λ t. All (λ m. m < length p.tasks) t.after) (task_lock (all_projects_lock p parallel) parallel) 0 p.tasks (λ k d within n. h.after_within k d within));
      actions_follow = actions_follow (task_lock (all_projects_lock p parallel) parallel) 0 0 0 p.tasks (length (all_actions_from 0 0 p.tasks)) (omega arith);
      units_follow = all_units_follow 0 0 p.tasks (length (plan_units p)) (omega arith);
      own_task = λ a within. (own_task (task_lock (all_projects_lock p parallel) parallel) 0 0 0 p.tasks a a within (omega arith) _ refl).1 _ (omega arith);
      some_item = all_some_items 0 0 p.tasks h.some_item;
    }

units_made : (task first : ℕ) (as' : List PlanActionView) → sum_by units_in (actions_from task first as') ≡ units_in_all as'
units_made task first [] = refl
units_made task first (a ∷ as') =
    let more = actions_from task (first + length (action_units a)) as' in
    sum_by-cons units_in (record { task = task; retention = a.retention; fetch = is_some a.fetch; first_unit = first; items = length a.items }) more
    ∙ ap (λ n. n + sum_by units_in more) (sym (units_of_action a))
    ∙ ap (λ n. length (action_units a) + n) (units_made task (first + length (action_units a)) as')

all_units_made : (task first : ℕ) (ts : List PlanTaskView) → sum_by units_in (all_actions_from task first ts) ≡ length (flat_map task_units ts)
all_units_made task first [] = refl
all_units_made task first (t ∷ ts) =
    let more = all_actions_from (task + 1) (first + units_in_all t.actions) ts in
    sum_by-append units_in (actions_from task first t.actions) more
    ∙ ap (λ n. n + sum_by units_in more) (units_made task first t.actions ∙ units_in_all-task_units t.actions)
    ∙ ap (λ n. length (task_units t) + n) (all_units_made (task + 1) (first + units_in_all t.actions) ts)
    ∙ sym (length-append (task_units t) (flat_map task_units ts))

-- the parts make the graph
pub same_graph : (p : PlanView) (workers max_leases locks : ℕ) (all : LockId) (parallel : Bool) (tasks : List GraphTaskView) (actions : List GraphAction)
    → all ≡ all_projects_lock p parallel → locks ≡ all.0 + 1 → tasks ≡ tasks_from (task_lock all parallel) 0 p.tasks → actions ≡ all_actions_from 0 0 p.tasks
    → made_of locks (Some all) workers max_leases tasks actions ≡ graph_of p workers max_leases parallel
same_graph p workers max_leases locks all parallel tasks actions lock a b c =
    let units : sum_by units_in actions ≡ length (plan_units p) = ap (sum_by units_in) c ∙ all_units_made 0 0 p.tasks in
    let count : locks ≡ (all_projects_lock p parallel).0 + 1 = a ∙ ap (λ (l : LockId). l.0 + 1) lock in
    let each : tasks ≡ tasks_from (task_lock (all_projects_lock p parallel) parallel) 0 p.tasks = b ∙ ap (λ (l : LockId). tasks_from (task_lock l parallel) 0 p.tasks) lock in
    λ i. record { locks = count i; all = Some (lock i); workers = workers; max_leases = max_leases; units = units i; tasks = each i; actions = c i }
