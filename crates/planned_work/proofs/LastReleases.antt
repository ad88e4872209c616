-- In the graph of a plan only the last action of a task releases.
use Rattle.std.proofs.Common.{◌≡◌, ℕ, zero, suc, ◌+◌, ◌-◌, ◌<◌, ◌≤◌, true, false, List, [], ◌∷◌, ◌++◌, length, get_or, inl, inr, refl, sym, ap, ◌∙◌, arith}
use Rattle.std.specs.List.{All}
use Rattle.std.proofs.lemmas.Bool.{cases_lt, false≢true}
use Rattle.std.proofs.lemmas.List.{get_or-append_right, get_or_append_left}
use Rattle.lock_journal.specs.Names.{no_action, no_task, IsIn, GraphAction, Release}
use Rattle.planned_work.specs.Graphs.{actions_from, all_actions_from, graph_of_plan, rows_from}
use Rattle.planned_work.specs.InPlace.{ReleasesLast}
use Rattle.planned_work.specs.Plans.{IsPlanView, PlannedTaskView, ReleaseLast, WorkPlanView, is_release, units_of_action, units_of_task}
use Rattle.planned_work.specs.declared.plans.PlannedAction.{PlannedAction}
use Rattle.planned_work.proofs.GraphSteps.{no_action as no_planned}

-- a task with an action begins at this number or behind it
begins_from : (first : ℕ) (ts : List PlannedTaskView) (ns : List (List ℕ)) (t a : ℕ) → IsIn (get_or (rows_from first ts ns) t no_task).first_action (get_or (rows_from first ts ns) t no_task).actions a → first ≤ a
begins_from first [] ns t a inside = absurd (omega (arith, inside.1))
begins_from first (x ∷ ts) [] t a inside = absurd (omega (arith, inside.1))
begins_from first (x ∷ ts) (n ∷ ns) zero a inside = omega (arith, inside.0)
begins_from first (x ∷ ts) (n ∷ ns) (suc t) a inside = let later = begins_from (first + length x.actions) ts ns t a inside in omega (arith, later)

-- the actions of a task are as many as the plan says, with their retentions
length-actions : (task unit : ℕ) (as' : List PlannedAction) → length (actions_from task unit as') ≡ length as'
length-actions task unit [] = refl
length-actions task unit (a ∷ as') = ap suc (length-actions task (unit + units_of_action a) as')

retention_at : (task unit : ℕ) (as' : List PlannedAction) (k : ℕ) → k < length as' → (get_or (actions_from task unit as') k no_action).retention ≡ (get_or as' k no_planned).retention
retention_at task unit [] k within = absurd (omega (arith, within))
retention_at task unit (a ∷ as') zero within = refl
retention_at task unit (a ∷ as') (suc k) within = retention_at task (unit + units_of_action a) as' k (omega (arith, within))

last_of_task : (as' : List PlannedAction) (k : ℕ) → ReleaseLast as' → k < length as' → (get_or as' k no_planned).retention ≡ Release → k + 1 ≡ length as'
last_of_task as' k last within is = elim (cases_lt (k + 1) (length as')) [
  | inl before ↦ absurd (false≢true (sym (last k no_planned before) ∙ ap is_release is))
  | inr past ↦ omega (arith, past, within)
]

-- those of all tasks, the first of which has this number
last_in_all : (first task unit : ℕ) (ts : List PlannedTaskView) (ns : List (List ℕ)) → All (λ (x : PlannedTaskView). ReleaseLast x.actions) ts → (t a k : ℕ) → a ≡ first + k
    → IsIn (get_or (rows_from first ts ns) t no_task).first_action (get_or (rows_from first ts ns) t no_task).actions a → (get_or (all_actions_from task unit ts) k no_action).retention ≡ Release
    → a + 1 ≡ (get_or (rows_from first ts ns) t no_task).first_action + (get_or (rows_from first ts ns) t no_task).actions
last_in_all first task unit [] ns each t a k at inside is = absurd (omega (arith, inside.1))
last_in_all first task unit (x ∷ ts) [] each t a k at inside is = absurd (omega (arith, inside.1))
last_in_all first task unit (x ∷ ts) (n ∷ ns) each zero a k at inside is =
    let within : k < length x.actions = omega (arith, at, inside.1) in
    let rest : List GraphAction = all_actions_from (task + 1) (unit + units_of_task x) ts in
    let here : get_or (actions_from task unit x.actions ++ rest) k no_action ≡ get_or (actions_from task unit x.actions) k no_action =
    get_or_append_left (actions_from task unit x.actions) rest no_action k (omega (arith, within, length-actions task unit x.actions)) in
    let releases : (get_or x.actions k no_planned).retention ≡ Release = sym (retention_at task unit x.actions k within) ∙ (ap (λ (g : GraphAction). g.retention) (sym here) ∙ is) in
    omega (arith, at, last_of_task x.actions k (each 0 x (omega arith)) within releases)
last_in_all first task unit (x ∷ ts) (n ∷ ns) each (suc t) a k at inside is =
    let from = begins_from (first + length x.actions) ts ns t a inside in
    let rest : List GraphAction = all_actions_from (task + 1) (unit + units_of_task x) ts in
    let behind : length x.actions ≤ k = omega (arith, at, from) in
    let here : get_or (actions_from task unit x.actions ++ rest) k no_action ≡ get_or rest (k - length x.actions) no_action =
    get_or-append_right (actions_from task unit x.actions) rest (length x.actions) k no_action (length-actions task unit x.actions) behind in
    last_in_all (first + length x.actions) (task + 1) (unit + units_of_task x) ts ns (λ i d low. each (suc i) d (omega (arith, low))) t a (k - length x.actions) (omega (arith, at, behind)) inside
    (ap (λ (g : GraphAction). g.retention) (sym here) ∙ is)

pub plans_release_last : (p : WorkPlanView) (workers max_leases : ℕ) → IsPlanView p → ReleasesLast (graph_of_plan p workers max_leases)
plans_release_last p workers max_leases plan = λ t a inside is. last_in_all 0 0 0 p.tasks p.after plan.release_last t a a (omega arith) inside is
