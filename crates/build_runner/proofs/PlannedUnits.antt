-- The units of a plan are those of its graph.
use Rattle.std.proofs.Common.{◌≡◌, ℕ, zero, suc, ◌+◌, ◌<◌, ◌≤◌, inl, inr, Bool, true, false, ◌||◌, List, [], ◌∷◌, ◌++◌, length, get_or, is_some, map, Option, None, Some, refl, sym, ◌∙◌, ap, subst, arith, append_assoc, length-append}
use Rattle.std.specs.Prelude.{slice_get}
use Rattle.std.specs.List.{AllByRecursion, flat_map, list_any}
use Rattle.std.proofs.lemmas.Bool.{and_parts, cases_lt, false≢true, leb-true, ltb-true}
use Rattle.lock_journal.specs.Names.{Fits, GraphView, no_action, IsIn, fetches, first_item, GraphAction}
use Rattle.resource_lock.specs.Ranges.{has_item}
use Rattle.plan_reader.specs.Graph.{actions_from, all_actions_from, graph_of, units_in_all}
use Rattle.plan_reader.specs.IsPlan.{IsPlan}
use Rattle.plan_reader.specs.PlanView.{PlanActionView, PlanTaskView, PlanView, WorkView}
use Rattle.plan_reader.specs.Units.{PlannedUnit, action_units, fetch_unit, fetch_units, item_unit, plan_units, task_units}
use Rattle.build_workers.specs.Units.{AreUnitsOf, IsFetched, IsPlannedItem}
use Rattle.build_runner.proofs.FileNames.{of_plan}
use Rattle.file_access.proofs.lemmas.Lists.{all_append}

-- an action's first unit is its fetch, where it has one, and its items stand behind
record IsPlaced (units : List PlannedUnit) (a : GraphAction) : Type 0 where
  fetch : a.fetch ≡ true → IsFetched units a.first_unit
  items : (u : ℕ) → IsIn (first_item a) a.items u → IsPlannedItem units u

at_seam : {X : Type 0} (front : List X) (x : X) (back : List X) (n : ℕ) → length front ≡ n → slice_get (front ++ x ∷ back) n ≡ Some x
at_seam [] x back zero is = refl
at_seam [] x back (suc n) is = absurd (omega (arith, is))
at_seam (y ∷ front) x back zero is = absurd (omega (arith, is))
at_seam (y ∷ front) x back (suc n) is = let e : length front ≡ n = omega (arith, is) in at_seam front x back n e

fetch_at : (front : List PlannedUnit) (f : Option (List ℕ)) (items others back : List PlannedUnit) (n : ℕ) → length front ≡ n → is_some f ≡ true → IsFetched (front ++ (((fetch_units f ++ items) ++ others) ++ back)) n
fetch_at front None items others back n is some = absurd (cc)
fetch_at front (Some file) items others back n is some = (file, at_seam front (fetch_unit file) ((items ++ others) ++ back) n is)

item_at : (front : List PlannedUnit) (ws : List WorkView) (back : List PlannedUnit) (n u : ℕ) → length front ≡ n → n ≤ u → u < n + length ws → IsPlannedItem (front ++ (map item_unit ws ++ back)) u
item_at front [] back n u is le lt = absurd (omega (arith, le, lt))
item_at front (w ∷ ws) back n u is le lt = elim (cases_lt n u) [
  | inl behind ↦
      let own : List PlannedUnit = item_unit w ∷ [] in
      let long : length (front ++ own) ≡ n + 1 = omega (arith, length-append front own, is) in
      subst (λ (us : List PlannedUnit). IsPlannedItem us u) (append_assoc front own (map item_unit ws ++ back)) (item_at (front ++ own) ws back (n + 1) u long (omega (arith, behind)) (omega (arith, lt)))
  | inr here ↦ (w, at_seam front (item_unit w) (map item_unit ws ++ back) u (omega (arith, is, le, here)))
]

items_at : (front : List PlannedUnit) (f : Option (List ℕ)) (ws : List WorkView) (others back : List PlannedUnit) (n u : ℕ) → length front ≡ n → IsIn (n + fetches (is_some f)) (length ws) u → IsPlannedItem (front ++ (((fetch_units f ++ map item_unit ws) ++ others) ++ back)) u
items_at front None ws others back n u is within =
    subst (λ (us : List PlannedUnit). IsPlannedItem (front ++ us) u) (sym (append_assoc (map item_unit ws) others back))
    (item_at front ws (others ++ back) n u is (omega (arith, within.0)) (omega (arith, within.1)))
items_at front (Some file) ws others back n u is within =
    let own : List PlannedUnit = fetch_unit file ∷ [] in
    let long : length (front ++ own) ≡ n + 1 = omega (arith, length-append front own, is) in
    subst (λ (us : List PlannedUnit). IsPlannedItem us u)
    (append_assoc front own (map item_unit ws ++ (others ++ back)) ∙ ap (λ (us : List PlannedUnit). front ++ fetch_unit file ∷ us) (sym (append_assoc (map item_unit ws) others back)))
    (item_at (front ++ own) ws (others ++ back) (n + 1) u long (omega (arith, within.0)) (omega (arith, within.1)))

of_actions : (front : List PlannedUnit) (task first : ℕ) (as' : List PlanActionView) (back : List PlannedUnit) → length front ≡ first → AllByRecursion (IsPlaced (front ++ (flat_map action_units as' ++ back))) (actions_from task first as')
of_actions front task first [] back is = tt
of_actions front task first (a ∷ as') back is =
    let own : List PlannedUnit = action_units a in
    let others : List PlannedUnit = flat_map action_units as' in
    let long : length (front ++ own) ≡ first + length own = omega (arith, length-append front own, is) in
    let same : (front ++ own) ++ (others ++ back) ≡ front ++ ((own ++ others) ++ back) = append_assoc front own (others ++ back) ∙ ap (λ us. front ++ us) (sym (append_assoc own others back)) in (
      record { fetch = fetch_at front a.fetch (map item_unit a.items) others back first is; items = λ u within. items_at front a.fetch a.items others back first u is within },
      subst (λ us. AllByRecursion (IsPlaced us) (actions_from task (first + length own) as')) same (of_actions (front ++ own) task (first + length own) as' back long),
    )

units_count : (as' : List PlanActionView) → length (flat_map action_units as') ≡ units_in_all as'
units_count [] = refl
units_count (a ∷ as') = let e = units_count as' in omega (arith, e, length-append (action_units a) (flat_map action_units as'))

of_tasks : (front : List PlannedUnit) (task first : ℕ) (ts : List PlanTaskView) → length front ≡ first → AllByRecursion (IsPlaced (front ++ flat_map task_units ts)) (all_actions_from task first ts)
of_tasks front task first [] is = tt
of_tasks front task first (t ∷ ts) is =
    let own : List PlannedUnit = task_units t in
    let others : List PlannedUnit = flat_map task_units ts in
    let next : ℕ = first + units_in_all t.actions in
    let long : length (front ++ own) ≡ next = omega (arith, length-append front own, units_count t.actions, is) in
    let later : AllByRecursion (IsPlaced (front ++ (own ++ others))) (all_actions_from (task + 1) next ts) = subst (λ us. AllByRecursion (IsPlaced us) (all_actions_from (task + 1) next ts)) (append_assoc front own others) (of_tasks (front ++ own) (task + 1) next ts long) in
    all_append (IsPlaced (front ++ (own ++ others))) (actions_from task first t.actions) (all_actions_from (task + 1) next ts) (of_actions front task first t.actions others is) later

-- the fetch of the action with this number
fetch_of : (units : List PlannedUnit) (as' : List GraphAction) → AllByRecursion (IsPlaced units) as' → (a : ℕ) → (get_or as' a no_action).fetch ≡ true → IsFetched units (get_or as' a no_action).first_unit
fetch_of units [] all a is = absurd (cc)
fetch_of units (x ∷ as') all zero is = all.0.fetch is
fetch_of units (x ∷ as') all (suc a) is = fetch_of units as' all.1 a is

-- what is an item of some action
item_of : (units : List PlannedUnit) (as' : List GraphAction) → AllByRecursion (IsPlaced units) as' → (u : ℕ) → list_any (has_item u) as' ≡ true → IsPlannedItem units u
item_of units [] all u some = absurd (false≢true some)
item_of units (x ∷ as') all u some = own_or_others (has_item u x) refl (item_of units as' all.1 u)
  where
    own_or_others : (own : Bool) → has_item u x ≡ own → (list_any (has_item u) as' ≡ true → IsPlannedItem units u) → IsPlannedItem units u
    own_or_others true is others = let parts = and_parts _ _ is in all.0.items u (leb-true _ _ parts.0, ltb-true _ _ parts.1)
    own_or_others false is others = others (subst (λ (own : Bool). (own || list_any (has_item u) as') ≡ true) is some)

of_graph : (plan : PlanView) (g : GraphView) (workers leases : ℕ) (parallel : Bool) → IsPlan plan → g ≡ graph_of plan workers leases parallel → Fits g → AreUnitsOf g (plan_units plan)
of_graph plan g workers leases parallel is graph fits =
    let placed : AllByRecursion (IsPlaced (plan_units plan)) g.actions = subst (λ (k : GraphView). AllByRecursion (IsPlaced (plan_units plan)) k.actions) (sym graph) (of_tasks [] 0 0 plan.tasks refl) in record {
      fits = fits;
      count = ap (λ (k : GraphView). k.units) graph;
      fetches = λ a u fetch. subst (IsFetched (plan_units plan)) (sym fetch.1) (fetch_of (plan_units plan) g.actions placed a fetch.0);
      items = λ u item. item_of (plan_units plan) g.actions placed u item;
      named = of_plan plan is;
    }

pub units_of_graph : (plan : PlanView) (workers leases : ℕ) (parallel : Bool) (g : GraphView) (units : List PlannedUnit) → IsPlan plan → Fits g → g ≡ graph_of plan workers leases parallel → units ≡ plan_units plan → AreUnitsOf g units
units_of_graph plan workers leases parallel g units is fits graph are = subst (AreUnitsOf g) (sym are) (of_graph plan g workers leases parallel is graph fits)
