-- The steps of the loops that make the graph of a plan.
use Rattle.std.proofs.Common.{◌≡◌, ◌+◌, ◌<◌, ◌≤◌, ℕ, suc, false, List, [], ◌∷◌, ◌++◌, Some, map, length, drop, get_or, refl, ap, sym, ◌∙◌, append_assoc, arith}
use Rattle.std.specs.Prelude.{Vec, sum_by}
use Rattle.std.specs.List.{All}
use Rattle.std.specs.declared.alloc.Global.{Global}
use Rattle.std.proofs.lemmas.List.{append-nil, drop_more}
use Rattle.std.proofs.lemmas.List.Sums.{sum_by-append, sum_by-cons}
use Rattle.std.proofs.Math.ListN.{drop_of_length-le}
use Rattle.lock_journal.specs.Names.{GraphTaskView, made_of, units_in, GraphAction, Retain, LockId}
use Rattle.ready_work.specs.Rank.{lists_of}
use Rattle.planned_work.specs.Graphs.{actions_from, actions_in, all_actions_from, graph_of_plan, rows_from}
use Rattle.planned_work.specs.Plans.{IsPlanView, PlannedTaskView, WorkPlanView, planned_task_view, units_of_action, units_of_task}
use Rattle.planned_work.specs.declared.plans.PlannedAction.{PlannedAction}
use Rattle.planned_work.specs.declared.plans.PlannedTask.{PlannedTask}

-- the elements from this one on
drop_at : {X : Type 0} (xs : List X) (i : ℕ) (x : X) → i < length xs → x ≡ get_or xs i x → drop i xs ≡ x ∷ drop (i + 1) xs
drop_at xs i x within is = drop_more xs i x within ∙ ap (λ y. y ∷ drop (i + 1) xs) (sym is)

-- where none is left
pub all_made : {X Y : Type 0} (f : List X → List Y) (done all : List Y) (xs : List X) (i : ℕ) → length xs ≤ i → f [] ≡ [] → done ++ f (drop i xs) ≡ all → done ≡ all
all_made f done all xs i past none so_far = sym (append-nil done) ∙ ap (λ ys. done ++ ys) (sym none ∙ ap f (sym (drop_of_length-le xs past))) ∙ so_far

-- ---- the actions of a task

abbrev pub no_action : PlannedAction
no_action = record { retention = Retain; fetch = false; items = 0 }

pub units_at : (as' : List PlannedAction) (i : ℕ) (x : PlannedAction) → i < length as' → x ≡ get_or as' i x
    → sum_by units_of_action (drop i as') ≡ units_of_action x + sum_by units_of_action (drop (i + 1) as')
units_at as' i x within is = ap (λ ds. sum_by units_of_action ds) (drop_at as' i x within is) ∙ sum_by-cons units_of_action x (drop (i + 1) as')

pub next_action : (task first units : ℕ) (done made all : List GraphAction) (as' : List PlannedAction) (i : ℕ) (x : PlannedAction) (o : GraphAction) → i < length as' → x ≡ get_or as' i x
    → o ≡ record { task = task; retention = x.retention; fetch = x.fetch; first_unit = first; items = x.items } → units ≡ units_of_action x → made ≡ done ++ o ∷ []
    → done ++ actions_from task first (drop i as') ≡ all → made ++ actions_from task (first + units) (drop (i + 1) as') ≡ all
next_action task first units done made all as' i x o within is shown units_are pushed so_far =
    let rest : ℕ → List GraphAction = λ n. actions_from task (first + n) (drop (i + 1) as') in
    ap (λ m. m ++ rest units) pushed
    ∙ append_assoc done (o ∷ []) (rest units)
    ∙ ap (λ n. done ++ (o ∷ rest n)) units_are
    ∙ ap (λ p. done ++ (p ∷ rest (units_of_action x))) shown
    ∙ ap (λ ds. done ++ actions_from task first ds) (sym (drop_at as' i x within is))
    ∙ so_far

-- ---- the actions of all tasks

pub units_left : (ts : List PlannedTask) (i : ℕ) (x : PlannedTask) → i < length ts → x ≡ get_or ts i x
    → sum_by units_of_task (map planned_task_view (drop i ts)) ≡ sum_by units_of_action x.actions.items + sum_by units_of_task (map planned_task_view (drop (i + 1) ts))
units_left ts i x within is =
    ap (λ ds. sum_by units_of_task (map planned_task_view ds)) (drop_at ts i x within is)
    ∙ sum_by-cons units_of_task (planned_task_view x) (map planned_task_view (drop (i + 1) ts))

pub next_actions : (first : ℕ) (done made all : List GraphAction) (ts : List PlannedTask) (i : ℕ) (x : PlannedTask) → i < length ts → x ≡ get_or ts i x
    → made ≡ done ++ actions_from i first x.actions.items
    → done ++ all_actions_from i first (map planned_task_view (drop i ts)) ≡ all
    → made ++ all_actions_from (i + 1) (first + sum_by units_of_action x.actions.items) (map planned_task_view (drop (i + 1) ts)) ≡ all
next_actions first done made all ts i x within is pushed so_far =
    let here = x.actions.items in
    let rest = all_actions_from (i + 1) (first + sum_by units_of_action here) (map planned_task_view (drop (i + 1) ts)) in
    ap (λ m. m ++ rest) pushed
    ∙ append_assoc done (actions_from i first here) rest
    ∙ ap (λ ds. done ++ all_actions_from i first (map planned_task_view ds)) (sym (drop_at ts i x within is))
    ∙ so_far

-- ---- the tasks

pub actions_left : (ts : List PlannedTask) (i : ℕ) (x : PlannedTask) → i < length ts → x ≡ get_or ts i x
    → actions_in (map planned_task_view (drop i ts)) ≡ length x.actions.items + actions_in (map planned_task_view (drop (i + 1) ts))
actions_left ts i x within is =
    ap (λ ds. actions_in (map planned_task_view ds)) (drop_at ts i x within is)
    ∙ sum_by-cons (λ (t : PlannedTaskView). length t.actions) (planned_task_view x) (map planned_task_view (drop (i + 1) ts))

-- the row that was pushed
abbrev row_of : LockId → List ℕ → ℕ → ℕ → GraphTaskView
row_of lock after first actions = record { lock = lock; after = after; first_action = first; actions = actions }

pub row_is : (x : PlannedTask) (n : Vec ℕ Global) (after : List ℕ) (first actions : ℕ) → after ≡ n.items → actions ≡ length x.actions.items → row_of x.lock after first actions ≡ row_of x.lock n.items first (length x.actions.items)
row_is x n after first actions names count = λ i. row_of x.lock (names i) first (count i)

pub next_row : (first : ℕ) (done made all : List GraphTaskView) (ts : List PlannedTask) (ns : List (Vec ℕ Global)) (i : ℕ) (x : PlannedTask) (n : Vec ℕ Global) (o : GraphTaskView)
    → i < length ts → x ≡ get_or ts i x → i < length ns → n ≡ get_or ns i n
    → o ≡ record { lock = x.lock; after = n.items; first_action = first; actions = length x.actions.items } → made ≡ done ++ o ∷ []
    → done ++ rows_from first (map planned_task_view (drop i ts)) (lists_of (drop i ns)) ≡ all
    → made ++ rows_from (first + length x.actions.items) (map planned_task_view (drop (i + 1) ts)) (lists_of (drop (i + 1) ns)) ≡ all
next_row first done made all ts ns i x n o within is within_names names_are shown pushed so_far =
    let rest = rows_from (first + length x.actions.items) (map planned_task_view (drop (i + 1) ts)) (lists_of (drop (i + 1) ns)) in
    ap (λ m. m ++ rest) pushed
    ∙ append_assoc done (o ∷ []) rest
    ∙ ap (λ p. done ++ (p ∷ rest)) shown
    ∙ ap (λ ds. done ++ rows_from first (map planned_task_view ds) (lists_of (n ∷ drop (i + 1) ns))) (sym (drop_at ts i x within is))
    ∙ ap (λ ms. done ++ rows_from first (map planned_task_view (drop i ts)) (lists_of ms)) (sym (drop_at ns i n within_names names_are))
    ∙ so_far

-- ---- as many actions as units at most

few_actions : (as' : List PlannedAction) → All (λ (a : PlannedAction). 0 < a.items) as' → length as' ≤ sum_by units_of_action as'
few_actions [] some = omega arith
few_actions (a ∷ as') some =
    let here : 0 < a.items = some 0 a (omega arith) in
    let rest = few_actions as' (λ k d low. some (suc k) d (omega (arith, low))) in
    let sum = sum_by-cons units_of_action a as' in
    omega (arith, here, rest, sum)

pub few_in_all : (ts : List PlannedTaskView) → All (λ (t : PlannedTaskView). All (λ (a : PlannedAction). 0 < a.items) t.actions) ts → actions_in ts ≤ sum_by units_of_task ts
few_in_all [] some = omega arith
few_in_all (t ∷ ts) some =
    let here = few_actions t.actions (some 0 t (omega arith)) in
    let rest = few_in_all ts (λ k d low. some (suc k) d (omega (arith, low))) in
    let sum = sum_by-cons units_of_task t ts in
    let count = sum_by-cons (λ (k : PlannedTaskView). length k.actions) t ts in
    omega (arith, here, rest, sum, count)

-- ---- the units of the graph are those of the plan

units_made : (task first : ℕ) (as' : List PlannedAction) → sum_by units_in (actions_from task first as') ≡ sum_by units_of_action as'
units_made task first [] = refl
units_made task first (a ∷ as') =
    let rest = units_made task (first + units_of_action a) as' in
    let sum = sum_by-cons units_of_action a as' in
    let made : sum_by units_in (actions_from task first (a ∷ as')) ≡ units_of_action a + sum_by units_in (actions_from task (first + units_of_action a) as') = sum_by-cons units_in (record { task = task; retention = a.retention; fetch = a.fetch; first_unit = first; items = a.items }) (actions_from task (first + units_of_action a) as') in
    omega (arith, rest, sum, made)

pub all_units_made : (task first : ℕ) (ts : List PlannedTaskView) → sum_by units_in (all_actions_from task first ts) ≡ sum_by units_of_task ts
all_units_made task first [] = refl
all_units_made task first (t ∷ ts) =
    let rest = all_units_made (task + 1) (first + units_of_task t) ts in
    let here = units_made task first t.actions in
    let both : sum_by units_in (all_actions_from task first (t ∷ ts)) ≡ sum_by units_in (actions_from task first t.actions) + sum_by units_in (all_actions_from (task + 1) (first + units_of_task t) ts) = sum_by-append units_in (actions_from task first t.actions) (all_actions_from (task + 1) (first + units_of_task t) ts) in
    let sum = sum_by-cons units_of_task t ts in
    omega (arith, rest, here, both, sum)

-- the names that the graph's tasks come after are those of the plan
pub afters_made : (first : ℕ) (ts : List PlannedTaskView) (ns : List (List ℕ)) → length ns ≡ length ts → map (λ (t : GraphTaskView). t.after) (rows_from first ts ns) ≡ ns
afters_made first [] [] same = refl
afters_made first [] (n ∷ ns) same = absurd (omega (arith, same))
afters_made first (t ∷ ts) [] same = absurd (omega (arith, same))
afters_made first (t ∷ ts) (n ∷ ns) same = ap (λ rest. n ∷ rest) (afters_made (first + length t.actions) ts ns (omega (arith, same)))

-- so the parts that the loops make are those of the plan's graph
pub graph_made : (p : WorkPlanView) (workers max_leases locks all : ℕ) (tasks : List GraphTaskView) (actions : List GraphAction) → locks ≡ p.locks → all ≡ p.locks → tasks ≡ rows_from 0 p.tasks p.after
    → actions ≡ all_actions_from 0 0 p.tasks → made_of (locks + 1) (Some (record { 0 = all })) workers max_leases tasks actions ≡ graph_of_plan p workers max_leases
graph_made p workers max_leases locks all tasks actions locks_are all_is rows made = λ i. record {
  locks = locks_are i + 1;
  all = Some (record { 0 = all_is i });
  workers = workers;
  max_leases = max_leases;
  units = (ap (λ (as' : List GraphAction). sum_by units_in as') made ∙ all_units_made 0 0 p.tasks) i;
  tasks = rows i;
  actions = made i;
}

-- those that were made of the plan's parts
pub rows_made : (p : WorkPlanView) (rows : List GraphTaskView) (tasks : List PlannedTaskView) (after : List (List ℕ)) → rows ≡ rows_from 0 tasks after → tasks ≡ p.tasks → after ≡ p.after → rows ≡ rows_from 0 p.tasks p.after
rows_made p rows tasks after made tasks_are after_are = made ∙ (λ i. rows_from 0 (tasks_are i) (after_are i))

pub graph_afters : (p : WorkPlanView) (workers max_leases : ℕ) → IsPlanView p → map (λ (t : GraphTaskView). t.after) (graph_of_plan p workers max_leases).tasks ≡ p.after
graph_afters p workers max_leases plan = afters_made 0 p.tasks p.after plan.names
