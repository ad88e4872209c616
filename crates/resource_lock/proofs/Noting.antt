-- The actions of units, noted one after the other.
use Rattle.std.proofs.Common.{◌≡◌, ◌⊎◌, ℕ, suc, ◌+◌, ◌<◌, ◌≤◌, List, [], ◌∷◌, ◌++◌, length, get_or, ap, sym, subst, ◌∙◌, arith, inl, inr}
use Rattle.std.proofs.lemmas.Bool.{cases_eq, cases_lt}
use Rattle.std.proofs.lemmas.List.{get_or_append_left, get_or_push, length-append}
use Rattle.std.proofs.lemmas.List.Elements.{All-get_or}
use Rattle.resource_lock.specs.GraphView.{GraphView, action_of, no_action}
use Rattle.resource_lock.specs.Ranges.{units_in, IsUnitOf}
use Rattle.resource_lock.specs.Fits.{Fits}
use Rattle.resource_lock.specs.UnitActions.{HasUnitActions, IsNear}
use Rattle.resource_lock.proofs.Follows.{first_range, last_range_at, next_range}
use Rattle.resource_lock.proofs.lemmas.Units.{end_of, range_of_unit, stop_is_nothing, unit_from}

-- where a unit stands right behind an action's last one, it belongs to the next action
pub next_action : (g : GraphView) (u a : ℕ) → Fits g → u < g.units → IsNear g u a → end_of (action_of g a) ≤ u → (a + 1 < length g.actions) × IsUnitOf g (a + 1) u
next_action g u a fits within near past =
    let next : a + 1 < length g.actions = elim (cases_lt (a + 1) (length g.actions)) [
      | inl next ↦ next
      | inr last ↦ absurd (omega (arith, near.within, near.ends, last_range_at (λ a. a.first_unit) units_in 0 g.actions g.units a no_action fits.units_follow (omega (arith, near.within))))
    ] in
    let same : a + 1 ≡ suc a = omega arith in
    let first : (action_of g (a + 1)).first_unit ≡ (action_of g a).first_unit + units_in (action_of g a) =
    ap (λ i. (action_of g i).first_unit) same ∙ next_range (λ a. a.first_unit) units_in 0 g.actions g.units a no_action fits.units_follow (omega (arith, next)) in
    (next, unit_from g (a + 1) u (omega (arith, first, near.ends)) (omega (arith, first, near.ends, All-get_or (λ a. 0 < a.items) g.actions (a + 1) no_action next fits.some_item)))

-- the first action is near the first unit
pub first_near : (g : GraphView) → Fits g → 0 < g.units → IsNear g 0 0
first_near g fits some =
    let there : 0 < length g.actions = elim (cases_lt 0 (length g.actions)) [
      | inl there ↦ there
      | inr none ↦ absurd (omega (arith, stop_is_nothing g.actions g.units fits.units_follow none))
    ] in
    record { within = there; begun = omega (arith, first_range (λ a. a.first_unit) units_in 0 g.actions g.units no_action fits.units_follow there); ends = omega arith }

-- an action is near the unit behind each of its own
pub near_next : (g : GraphView) (u a : ℕ) → a < length g.actions → IsUnitOf g a u → IsNear g (u + 1) a
near_next g u a within unit = record { within = within; begun = omega (arith, (range_of_unit g a u unit).0); ends = omega (arith, (range_of_unit g a u unit).1) }

pub none_noted : (g : GraphView) (xs : List ℕ) → xs ≡ [] → HasUnitActions g 0 xs
none_noted g xs is = record { size = ap length is; within = λ u lt. absurd (omega arith); each = λ u lt. absurd (omega arith) }

-- one more is noted
pub noted_next : (g : GraphView) (n a : ℕ) (xs : List ℕ) → a < length g.actions → IsUnitOf g a n → HasUnitActions g n xs → HasUnitActions g (n + 1) (xs ++ a ∷ [])
noted_next g n a xs within unit noted = record {
  size = omega (arith, length-append xs (a ∷ []), noted.size);
  within = λ u lt. at (λ v b. b < length g.actions) within noted.within u lt (cases_eq u n);
  each = λ u lt. at (λ v b. IsUnitOf g b v) unit noted.each u lt (cases_eq u n);
}
  where
    at : (P : ℕ → ℕ → Type 0) → P n a → ((u : ℕ) → u < n → P u (get_or xs u 0)) → (u : ℕ) → u < n + 1 → (u ≡ n) ⊎ (u ≡ n → ⊥) → P u (get_or (xs ++ a ∷ []) u 0)
    at P new old u lt (inl e) = subst (P u) (sym (get_or_push xs a 0 u (noted.size ∙ sym e))) (subst (λ v. P v a) (sym e) new)
    at P new old u lt (inr ne) = subst (P u) (sym (get_or_append_left xs (a ∷ []) 0 u (omega (arith, noted.size)))) (old u (omega arith))
