-- Each unit of a plan has the name of a file, in its form.
use Rattle.std.proofs.Common.{ℕ, List, [], ◌∷◌, map, Option, None, Some}
use Rattle.std.specs.List.{All, flat_map}
use Rattle.std.proofs.lemmas.List.Elements.{All-append, All-cons, All-head, All-map, All-nil, All-tail, All-weaker}
use Rattle.plan_table.specs.Formed.{IsFetch}
use Rattle.plan_reader.specs.IsPlan.{HasFileNames, IsPlan}
use Rattle.plan_reader.specs.PlanView.{PlanActionView, PlanTaskView, PlanView}
use Rattle.plan_reader.specs.Units.{PlannedUnit, action_units, fetch_units, item_unit, plan_units, task_units}
use Rattle.build_workers.specs.Units.{HasFileName}

-- all units of a list of parts have one, where all units of each part do
of_parts : {X : Type 0} (units : X → List PlannedUnit) (xs : List X) → All (λ x. All HasFileName (units x)) xs → All HasFileName (flat_map units xs)
of_parts units [] all = All-nil HasFileName
of_parts units (x ∷ xs) all =
    let first : All HasFileName (units x) = All-head (λ x. All HasFileName (units x)) x xs all in
    All-append HasFileName (units x) (flat_map units xs) first (of_parts units xs (All-tail (λ x. All HasFileName (units x)) x xs all))

of_fetch : (f : Option (List ℕ)) → IsFetch f → All HasFileName (fetch_units f)
of_fetch None is = All-nil HasFileName
of_fetch (Some file) is = All-cons HasFileName (record { action = None; file = file; process = None }) [] is (All-nil HasFileName)

of_action : (a : PlanActionView) → HasFileNames a → All HasFileName (action_units a)
of_action a is = All-append HasFileName (fetch_units a.fetch) (map item_unit a.items) (of_fetch a.fetch is.fetch) (All-map HasFileName item_unit a.items is.items)

of_task : (t : PlanTaskView) → All HasFileNames t.actions → All HasFileName (task_units t)
of_task t is = of_parts action_units t.actions (All-weaker HasFileNames (λ a. All HasFileName (action_units a)) of_action t.actions is)

pub of_plan : (p : PlanView) → IsPlan p → All HasFileName (plan_units p)
of_plan p is = of_parts task_units p.tasks (All-weaker (λ t. All HasFileNames t.actions) (λ t. All HasFileName (task_units t)) of_task p.tasks is.file_names)
