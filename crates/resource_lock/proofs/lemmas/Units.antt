-- The action that a unit belongs to.
use Rattle.std.proofs.Common.{◌≡◌, ℕ, ◌+◌, ◌-◌, ◌<◌, ◌≤◌, List, [], ◌∷◌, length, true, false, leb, ltb, zero, suc, sym, ◌∙◌, ap, arith, inl, inr}
use Rattle.std.specs.List.{AllByRecursion}
use Rattle.std.specs.List.Sorted.{IsPartitionPoint}
use Rattle.std.proofs.lemmas.Bool.{cases_Bool, cases_eq, cases_lt, cases_order, leb-true, leb-false, lt-ltb, ltb-true, and_from, and_parts, both_ways, false_from_ne_true}
use Rattle.std.proofs.lemmas.List.{get_or_past}
use Rattle.std.proofs.lemmas.List.Folds.{list_any_at, list_any_none}
use Rattle.std.proofs.lemmas.List.Elements.{All-from_get_or, recursion_from_All}
use Rattle.resource_lock.specs.GraphView.{GraphView, action_of, no_action}
use Rattle.resource_lock.specs.Ranges.{fetches, first_item, units_in, IsUnitOf, has_item, is_item}
use Rattle.resource_lock.specs.Fits.{Fits, Follow}
use Rattle.resource_lock.specs.declared.graphs.GraphAction.{GraphAction}
use Rattle.resource_lock.specs.declared.limits.TheConstants.{MAX_UNITS}
use Rattle.resource_lock.proofs.Follows.{first_range, next_range, last_range_at, ends_before}

-- the number behind an action's last unit
abbrev pub end_of : GraphAction → ℕ
end_of a = a.first_unit + units_in a

pub stop_is_nothing : (actions : List GraphAction) (stop : ℕ) → Follow (λ a. a.first_unit) units_in 0 actions stop → length actions ≤ 0 → stop ≡ 0
stop_is_nothing [] stop h none = omega (arith, h)
stop_is_nothing (x ∷ xs) stop h none = absurd (omega arith)

begins_by : (g : GraphView) (u i : ℕ) → Fits g → i < length g.actions → IsPartitionPoint (λ a. leb (end_of a) u ≡ true) (λ a. leb (end_of a) u ≡ false) g.actions i → (action_of g i).first_unit ≤ u
begins_by g u zero fits inside point = omega (arith, first_range (λ a. a.first_unit) units_in 0 g.actions g.units no_action fits.units_follow inside)
begins_by g u (suc i) fits inside point =
    omega (arith, next_range (λ a. a.first_unit) units_in 0 g.actions g.units i no_action fits.units_follow inside, leb-true _ _ (point.0 i no_action (omega arith) (omega arith)))

-- the actions that end at the unit or before it come first, so the next one has it
pub at_partition : (g : GraphView) (u i : ℕ) → Fits g → u < g.units → i ≤ length g.actions → IsPartitionPoint (λ a. leb (end_of a) u ≡ true) (λ a. leb (end_of a) u ≡ false) g.actions i → (i < length g.actions) × ((action_of g i).first_unit ≤ u) × (u < end_of (action_of g i))
at_partition g u i fits within least point =
    let some : 0 < length g.actions = elim (cases_lt 0 (length g.actions)) [
      | inl some ↦ some
      | inr none ↦ absurd (omega (arith, within, stop_is_nothing g.actions g.units fits.units_follow none))
    ] in
    let inside : i < length g.actions = elim (cases_lt i (length g.actions)) [
      | inl inside ↦ inside
      | inr past ↦ absurd (omega (arith, within, leb-true _ _ (point.0 (length g.actions - 1) no_action (omega arith) (omega arith)), last_range_at (λ a. a.first_unit) units_in 0 g.actions g.units (length g.actions - 1) no_action fits.units_follow (omega arith)))
    ] in
    (inside, begins_by g u i fits inside point, leb-false _ _ (point.1 i no_action (omega arith) inside))

-- a number in an action's range is its fetch or one of its items
pub unit_from : (g : GraphView) (a u : ℕ) → (action_of g a).first_unit ≤ u → u < end_of (action_of g a) → IsUnitOf g a u
unit_from g a u low high = elim (cases_Bool (action_of g a).fetch) [
  | inl fetch ↦ elim (cases_eq u (action_of g a).first_unit) [
    | inl first ↦ inl (fetch, first)
    | inr later ↦ inr (omega (arith, ap fetches fetch), omega arith)
  ]
  | inr none ↦ inr (omega (arith, ap fetches none), omega arith)
]

-- a unit of an action is in its range
pub range_of_unit : (g : GraphView) (a u : ℕ) → IsUnitOf g a u → ((action_of g a).first_unit ≤ u) × (u < end_of (action_of g a))
range_of_unit g a u (inl fetch) = (omega (arith, fetch.1), omega (arith, fetch.1, ap fetches fetch.0))
range_of_unit g a u (inr item) = (omega (arith, item.0), omega (arith, item.1))

-- there is an action of the number, if it has a unit
pub action_there : (g : GraphView) (a u : ℕ) → IsUnitOf g a u → a < length g.actions
action_there g a u unit = elim (cases_lt a (length g.actions)) [
  | inl there ↦ there
  | inr past ↦ absurd (omega (arith, (range_of_unit g a u unit).0, (range_of_unit g a u unit).1, ap end_of (get_or_past g.actions a no_action past), ap (λ x. x.first_unit) (get_or_past g.actions a no_action past)))
]

-- a unit belongs to one action
pub one_action : (g : GraphView) (a b u : ℕ) → Fits g → IsUnitOf g a u → IsUnitOf g b u → a ≡ b
one_action g a b u fits ua ub = elim (cases_order a b) [
  | inl same ↦ same
  | inr (inl less) ↦ absurd (omega (arith, (range_of_unit g a u ua).1, (range_of_unit g b u ub).0, ends_before (λ x. x.first_unit) units_in 0 g.actions g.units a b no_action fits.units_follow less (action_there g b u ub)))
  | inr (inr more) ↦ absurd (omega (arith, (range_of_unit g b u ub).1, (range_of_unit g a u ua).0, ends_before (λ x. x.first_unit) units_in 0 g.actions g.units b a no_action fits.units_follow more (action_there g a u ua)))
]

has_item_from : (a : GraphAction) (u : ℕ) → leb (first_item a) u ≡ true → u < end_of a → has_item u a ≡ true
has_item_from a u low high = and_from (leb (first_item a) u) (ltb u (first_item a + a.items)) low (lt-ltb u (first_item a + a.items) (omega (arith, high)))

-- a unit of an action is an item where it isn't before the action's items
pub is_item_from : (g : GraphView) (a u : ℕ) → Fits g → IsUnitOf g a u → leb (first_item (action_of g a)) u ≡ is_item g u
is_item_from g a u fits unit = elim (cases_Bool (leb (first_item (action_of g a)) u)) [
  | inl item ↦ item ∙ sym (list_any_at (has_item u) g.actions a no_action (action_there g a u unit) (has_item_from (action_of g a) u item (range_of_unit g a u unit).1))
  | inr before ↦ before ∙ sym (list_any_none (has_item u) g.actions (All-from_get_or (λ x. has_item u x ≡ false) g.actions no_action (λ k within. false_from_ne_true (has_item u (action_of g k)) (λ has.
      let parts : (leb (first_item (action_of g k)) u ≡ true) × (ltb u (first_item (action_of g k) + (action_of g k).items) ≡ true) = and_parts _ _ has in
      let same : k ≡ a = one_action g k a u fits (inr (leb-true _ _ parts.0, ltb-true _ _ parts.1)) unit in
      both_ways (leb (first_item (action_of g k)) u) (ap (λ x. leb (first_item (action_of g x)) u) same ∙ before) parts.0))))
]

-- actions that have an item each are no more than their units
no_more_than_units : (n : ℕ) (actions : List GraphAction) (stop : ℕ) → AllByRecursion (λ a. 0 < a.items) actions → Follow (λ a. a.first_unit) units_in n actions stop → n + length actions ≤ stop
no_more_than_units n [] stop some follow = omega (arith, follow)
no_more_than_units n (a ∷ actions) stop some follow =
    let rest : n + units_in a + length actions ≤ stop = no_more_than_units (n + units_in a) actions stop some.1 follow.1 in
    omega (arith, some.0)

-- a graph has no more actions than units
pub few_actions_in_all : (g : GraphView) → Fits g → length g.actions ≤ MAX_UNITS
few_actions_in_all g fits = omega (arith, no_more_than_units 0 g.actions g.units (recursion_from_All (λ a. 0 < a.items) g.actions fits.some_item) fits.units_follow, fits.few_units)
