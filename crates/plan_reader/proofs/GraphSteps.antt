-- The steps of the loops that make the graph of a plan.
use Rattle.std.proofs.Common.{◌≡◌, ◌+◌, ◌<◌, ◌≤◌, ℕ, List, [], ◌∷◌, ◌++◌, map, length, drop, get_or, Option, None, Some, is_some, ap, sym, subst, ◌∙◌, append_assoc, length-append, arith}
use mir.Val.{bool_byte}
use Rattle.std.specs.List.{All, flat_map}
use Rattle.std.proofs.lemmas.List.{append-nil, length-map, get_or-map, drop_more}
use Rattle.std.proofs.Math.ListN.{drop_of_length-le}
use Rattle.resource_lock.specs.declared.ids.LockId.{LockId}
use Rattle.resource_lock.specs.declared.graphs.GraphAction.{GraphAction}
use Rattle.resource_lock.specs.GraphView.{GraphTaskView}
use Rattle.plan_reader.specs.declared.limits.TheConstants.{MAX_ACTIONS_PER_TASK}
use Rattle.plan_reader.specs.declared.plans.PlanAction.{PlanAction}
use Rattle.plan_reader.specs.declared.plans.PlanTask.{PlanTask}
use Rattle.plan_table.specs.Forms.{Text}
use Rattle.plan_reader.specs.PlanView.{PlanTaskView, work_view, plan_action_view, plan_task_view}
use Rattle.plan_reader.specs.Units.{PlannedUnit, fetch_units, item_unit, action_units, task_units}
use Rattle.plan_reader.specs.Graph.{tasks_from, actions_from, units_in_all, all_actions_from}
use Rattle.plan_reader.proofs.Fitting.{task_outline, units_in_all-task_units}

-- the elements from this one on
drop_at : {X : Type 0} (xs : List X) (i : ℕ) (x : X) → i < length xs → x ≡ get_or xs i x → drop i xs ≡ x ∷ drop (i + 1) xs
drop_at xs i x within is = drop_more xs i x within ∙ ap (λ y. y ∷ drop (i + 1) xs) (sym is)

-- ---- tasks

pub few_at : (ts : List PlanTask) (i : ℕ) (x : PlanTask) → i < length ts → x ≡ get_or ts i x → All (λ t. length t.actions ≤ MAX_ACTIONS_PER_TASK) (map plan_task_view ts) → length x.actions.items ≤ MAX_ACTIONS_PER_TASK
few_at ts i x within is few =
    let here = few i (plan_task_view x) (rw (length-map ts plan_task_view) within) in
    let same = get_or-map plan_task_view ts i x (plan_task_view x) within ∙ ap plan_task_view (sym is) in
    rw (length-map x.actions.items plan_action_view) at (subst (λ t. length t.actions ≤ MAX_ACTIONS_PER_TASK) same here)

pub outlined : (lock_of : PlanTaskView → LockId) (x : PlanTask) (lock : LockId) (after : List ℕ) (first actions : ℕ) → lock ≡ lock_of (plan_task_view x) → after ≡ x.after.items → actions ≡ length x.actions.items
    → record { lock = lock; after = after; first_action = first; actions = actions } ≡ task_outline lock_of first (plan_task_view x)
outlined lock_of x lock after first actions a b c =
    let d : actions ≡ length (map plan_action_view x.actions.items) = c ∙ sym (length-map x.actions.items plan_action_view) in
    λ i. record { lock = a i; after = b i; first_action = first; actions = d i }

pub next_task : (lock_of : PlanTaskView → LockId) (first : ℕ) (done made all : List GraphTaskView) (ts : List PlanTask) (i : ℕ) (x : PlanTask) → i < length ts → x ≡ get_or ts i x
    → made ≡ done ++ task_outline lock_of first (plan_task_view x) ∷ []
    → done ++ tasks_from lock_of first (map plan_task_view (drop i ts)) ≡ all
    → made ++ tasks_from lock_of (first + length x.actions.items) (map plan_task_view (drop (i + 1) ts)) ≡ all
next_task lock_of first done made all ts i x within is pushed so_far =
    let o = task_outline lock_of first (plan_task_view x) in
    let rest = map plan_task_view (drop (i + 1) ts) in
    ap (λ m. m ++ tasks_from lock_of (first + length x.actions.items) rest) pushed
    ∙ append_assoc done (o ∷ []) (tasks_from lock_of (first + length x.actions.items) rest)
    ∙ ap (λ n. done ++ (o ∷ tasks_from lock_of (first + n) rest)) (sym (length-map x.actions.items plan_action_view))
    ∙ ap (λ ds. done ++ tasks_from lock_of first (map plan_task_view ds)) (sym (drop_at ts i x within is))
    ∙ so_far

-- ---- the actions of a task

pub units_of_action : (a : PlanAction) → length (action_units (plan_action_view a)) ≡ length a.items.items + bool_byte (is_some a.fetch)
units_of_action a = by a.fetch
  where
    items : (f : List PlannedUnit) → length (f ++ map item_unit (map work_view a.items.items)) ≡ length f + length a.items.items
    items f =
        length-append f (map item_unit (map work_view a.items.items))
        ∙ ap (λ n. length f + n) (length-map (map work_view a.items.items) item_unit ∙ length-map a.items.items work_view)

    by : (f : Option Text) → length (fetch_units f ++ map item_unit (map work_view a.items.items)) ≡ length a.items.items + bool_byte (is_some f)
    by None = omega (arith, items [])
    by (Some file) = omega (arith, items (fetch_units (Some file)))

pub units_at : (as' : List PlanAction) (i : ℕ) (x : PlanAction) → i < length as' → x ≡ get_or as' i x
    → units_in_all (map plan_action_view (drop i as')) ≡ (length x.items.items + bool_byte (is_some x.fetch)) + units_in_all (map plan_action_view (drop (i + 1) as'))
units_at as' i x within is =
    ap (λ ds. units_in_all (map plan_action_view ds)) (drop_at as' i x within is)
    ∙ ap (λ n. n + units_in_all (map plan_action_view (drop (i + 1) as'))) (units_of_action x)

pub next_action : (task first units : ℕ) (done made all : List GraphAction) (as' : List PlanAction) (i : ℕ) (x : PlanAction) (o : GraphAction) → i < length as' → x ≡ get_or as' i x
    → o ≡ record { task = task; retention = x.retention; fetch = is_some x.fetch; first_unit = first; items = length x.items.items }
    → units ≡ length x.items.items + bool_byte (is_some x.fetch)
    → made ≡ done ++ o ∷ []
    → done ++ actions_from task first (map plan_action_view (drop i as')) ≡ all
    → made ++ actions_from task (first + units) (map plan_action_view (drop (i + 1) as')) ≡ all
next_action task first units done made all as' i x o within is shown units_are pushed so_far =
    let rest : ℕ → List GraphAction = λ n. actions_from task (first + n) (map plan_action_view (drop (i + 1) as')) in
    let items : length x.items.items ≡ length (map work_view x.items.items) = sym (length-map x.items.items work_view) in
    let same : o ≡ record { task = task; retention = x.retention; fetch = is_some x.fetch; first_unit = first; items = length (map work_view x.items.items) } =
    shown ∙ ap (λ n. record { task = task; retention = x.retention; fetch = is_some x.fetch; first_unit = first; items = n }) items
    in
    ap (λ m. m ++ rest units) pushed
    ∙ append_assoc done (o ∷ []) (rest units)
    ∙ ap (λ n. done ++ (o ∷ rest n)) (units_are ∙ sym (units_of_action x))
    ∙ ap (λ p. done ++ (p ∷ rest (length (action_units (plan_action_view x))))) same
    ∙ ap (λ ds. done ++ actions_from task first (map plan_action_view ds)) (sym (drop_at as' i x within is))
    ∙ so_far

-- where none is left
pub all_made : {X Y : Type 0} (f : List X → List Y) (done all : List Y) (xs : List X) (i : ℕ) → length xs ≤ i → f [] ≡ [] → done ++ f (drop i xs) ≡ all → done ≡ all
all_made f done all xs i past none so_far = sym (append-nil done) ∙ ap (λ ys. done ++ ys) (sym none ∙ ap f (sym (drop_of_length-le xs past))) ∙ so_far

-- ---- actions

pub units_left : (ts : List PlanTask) (i : ℕ) (x : PlanTask) → i < length ts → x ≡ get_or ts i x
    → length (flat_map task_units (map plan_task_view (drop i ts))) ≡ units_in_all (map plan_action_view x.actions.items) + length (flat_map task_units (map plan_task_view (drop (i + 1) ts)))
units_left ts i x within is =
    ap (λ ds. length (flat_map task_units (map plan_task_view ds))) (drop_at ts i x within is)
    ∙ length-append (task_units (plan_task_view x)) (flat_map task_units (map plan_task_view (drop (i + 1) ts)))
    ∙ ap (λ n. n + length (flat_map task_units (map plan_task_view (drop (i + 1) ts)))) (sym (units_in_all-task_units (map plan_action_view x.actions.items)))

pub next_actions : (first : ℕ) (done made all : List GraphAction) (ts : List PlanTask) (i : ℕ) (x : PlanTask) → i < length ts → x ≡ get_or ts i x
    → made ≡ done ++ actions_from i first (map plan_action_view x.actions.items)
    → done ++ all_actions_from i first (map plan_task_view (drop i ts)) ≡ all
    → made ++ all_actions_from (i + 1) (first + units_in_all (map plan_action_view x.actions.items)) (map plan_task_view (drop (i + 1) ts)) ≡ all
next_actions first done made all ts i x within is pushed so_far =
    let here = map plan_action_view x.actions.items in
    let rest = all_actions_from (i + 1) (first + units_in_all here) (map plan_task_view (drop (i + 1) ts)) in
    ap (λ m. m ++ rest) pushed
    ∙ append_assoc done (actions_from i first here) rest
    ∙ ap (λ ds. done ++ all_actions_from i first (map plan_task_view ds)) (sym (drop_at ts i x within is))
    ∙ so_far
