-- What each call that makes a plan keeps of it.
use Rattle.std.proofs.Common.{◌≡◌, ◌+◌, ◌<◌, ◌≤◌, ℕ, false, List, [], ◌∷◌, ◌++◌, Vec, arith, get_or, length, map, refl, sym, ap, ◌∙◌}
use Rattle.std.specs.Prelude.{set}
use Rattle.std.specs.List.{All}
use Rattle.std.specs.declared.alloc.Global.{Global}
use Rattle.std.proofs.lemmas.List.{get_or-map, length-set, map-set, set-get_or}
use Rattle.std.proofs.lemmas.List.Elements.{All-push, All-set}
use Rattle.resource_lock.specs.declared.limits.TheConstants.{MAX_UNITS}
use Rattle.ready_work.specs.Rank.{lists_of}
use Rattle.planned_work.specs.Plans.{IsWorkPlan, PlannedTaskView, ReleaseLast, WorkPlanView, names_in_plan, no_task, plan_view, planned_task_view, releases, task_in_plan, units_of_action, units_of_plan, with_action, with_names}
use Rattle.planned_work.specs.declared.plans.PlannedAction.{PlannedAction}
use Rattle.planned_work.specs.declared.plans.PlannedTask.{PlannedTask}
use Rattle.planned_work.proofs.PlanSteps.{release_push, units_more}

-- the plan as it is kept, behind each call
module _ (locks : ℕ) (ts : List PlannedTask) (vs : List (Vec ℕ Global)) where
  view_as : (tasks : List PlannedTaskView) (after : List (List ℕ)) → map planned_task_view ts ≡ tasks → lists_of vs ≡ after → plan_view locks ts vs ≡ record { locks = locks; tasks = tasks; after = after }
  view_as tasks after one other = ap (λ (l : List PlannedTaskView). record { locks = locks; tasks = l; after = lists_of vs }) one ∙ ap (λ (l : List (List ℕ)). record { locks = locks; tasks = tasks; after = l }) other

pub names_added : (locks : ℕ) (ts : List PlannedTask) (vs : List (Vec ℕ Global)) (t : ℕ) (v : Vec ℕ Global) (before : List ℕ) → v.items ≡ names_in_plan (plan_view locks ts vs) t ++ before
    → plan_view locks ts (set vs t v) ≡ with_names t before (plan_view locks ts vs)
names_added locks ts vs t v before is =
    view_as locks ts (set vs t v) (map planned_task_view ts) (set (lists_of vs) t (names_in_plan (plan_view locks ts vs) t ++ before)) refl
    (map-set (λ (w : Vec ℕ Global). w.items) vs t v ∙ ap (λ (l : List ℕ). set (lists_of vs) t l) is)

pub action_added : (locks : ℕ) (ts : List PlannedTask) (vs : List (Vec ℕ Global)) (t : ℕ) (x : PlannedTask) (a : PlannedAction)
    → planned_task_view x ≡ record { lock = (task_in_plan (plan_view locks ts vs) t).lock; actions = (task_in_plan (plan_view locks ts vs) t).actions ++ a ∷ [] }
    → plan_view locks (set ts t x) vs ≡ with_action t a (plan_view locks ts vs)
action_added locks ts vs t x a is =
    let new : PlannedTaskView = record { lock = (task_in_plan (plan_view locks ts vs) t).lock; actions = (task_in_plan (plan_view locks ts vs) t).actions ++ a ∷ [] } in
    view_as locks (set ts t x) vs (set (map planned_task_view ts) t new) (lists_of vs) (map-set planned_task_view ts t x ∙ ap (λ (k : PlannedTaskView). set (map planned_task_view ts) t k) is) refl

-- what stands at a place of the vectors is what the plan has there
pub task_there : (locks : ℕ) (ts : List PlannedTask) (vs : List (Vec ℕ Global)) (t : ℕ) (x : PlannedTask) → t < length ts → x ≡ get_or ts t x → planned_task_view x ≡ task_in_plan (plan_view locks ts vs) t
task_there locks ts vs t x low is = ap planned_task_view is ∙ sym (get_or-map planned_task_view ts t x no_task low)

pub names_there : (locks : ℕ) (ts : List PlannedTask) (vs : List (Vec ℕ Global)) (t : ℕ) (v : Vec ℕ Global) → t < length vs → v ≡ get_or vs t v → v.items ≡ names_in_plan (plan_view locks ts vs) t
names_there locks ts vs t v low is = ap (λ (w : Vec ℕ Global). w.items) is ∙ sym (get_or-map (λ (w : Vec ℕ Global). w.items) vs t v [] low)

-- the plan stays where that is written back
pub task_same : (locks : ℕ) (ts : List PlannedTask) (vs : List (Vec ℕ Global)) (t : ℕ) (x : PlannedTask) → planned_task_view x ≡ task_in_plan (plan_view locks ts vs) t → plan_view locks (set ts t x) vs ≡ plan_view locks ts vs
task_same locks ts vs t x is =
    view_as locks (set ts t x) vs (map planned_task_view ts) (lists_of vs)
    (map-set planned_task_view ts t x ∙ ap (λ (k : PlannedTaskView). set (map planned_task_view ts) t k) is ∙ set-get_or (map planned_task_view ts) t no_task) refl

pub names_same : (locks : ℕ) (ts : List PlannedTask) (vs : List (Vec ℕ Global)) (t : ℕ) (v : Vec ℕ Global) → v.items ≡ names_in_plan (plan_view locks ts vs) t → plan_view locks ts (set vs t v) ≡ plan_view locks ts vs
names_same locks ts vs t v is =
    view_as locks ts (set vs t v) (map planned_task_view ts) (lists_of vs) refl
    (map-set (λ (w : Vec ℕ Global). w.items) vs t v ∙ ap (λ (l : List ℕ). set (lists_of vs) t l) is ∙ set-get_or (lists_of vs) t [])

-- what holds of each plan holds behind each call
pub action_kept : (p : WorkPlanView) (units t : ℕ) (a : PlannedAction) → IsWorkPlan p units → t < length p.tasks → 0 < a.items → releases (task_in_plan p t).actions ≡ false → units + units_of_action a ≤ MAX_UNITS
    → IsWorkPlan (with_action t a p) (units + units_of_action a)
action_kept p units t a k low some none few =
    let old : PlannedTaskView = task_in_plan p t in
    let new : PlannedTaskView = record { lock = old.lock; actions = old.actions ++ a ∷ [] } in
    let size = length-set p.tasks t new in
    let names = k.is.names in
    let sum : units_of_plan (with_action t a p) ≡ units_of_plan p + units_of_action a = units_more p.tasks t no_task a low in
    let was = k.counted in
    record {
      is = record {
        few_locks = k.is.few_locks;
        few_tasks = (let most = k.is.few_tasks in omega (arith, size, most));
        names = omega (arith, size, names);
        some_item = All-set (λ (x : PlannedTaskView). All (λ (b : PlannedAction). 0 < b.items) x.actions) p.tasks t new (All-push (λ (b : PlannedAction). 0 < b.items) old.actions a (k.is.some_item t no_task low) some) k.is.some_item;
        release_last = All-set (λ (x : PlannedTaskView). ReleaseLast x.actions) p.tasks t new (release_push old.actions a (k.is.release_last t no_task low) none) k.is.release_last;
        few_units = omega (arith, sum, was, few);
      };
      counted = ap (λ (n : ℕ). n + units_of_action a) was ∙ sym sum;
    }
