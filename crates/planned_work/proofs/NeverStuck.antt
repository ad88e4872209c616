-- A section is entered and left, and a fetch closed, wherever the worker is in its place and what it has parked is free.
use Rattle.std.proofs.Common.{◌≡◌, ◌≢◌, ℕ, Bool, true, false, List, [], ◌∷◌, Option, Some, None, refl, sym, ap, ◌∙◌, subst}
use Rattle.std.specs.Prelude.{Contains}
use Rattle.std.specs.List.{list_any}
use Rattle.std.proofs.lemmas.Bool.{and_parts, false≢true}
use Rattle.item_actions.specs.declared.outcomes.Outcome.{Outcome}
use Rattle.item_actions.specs.declared.outcomes.Outcome.TheVariants as outcomes
use Rattle.lock_journal.specs.Names.{MarkId, TaskOf, ActionOf, UnitOf, is_unit, IsUnmet, Closed}
use Rattle.lock_transforms.specs.declared.entries.Kind.TheVariants as kinds
use Rattle.blocking_section.specs.BlockedView.{BlockedView}
use Rattle.blocking_section.specs.Sections.{FitsUnit, HasUnit, IsGivenBackBy, closed_with}
use Rattle.blocking_section.proofs.Entered.{not_ready}
use Rattle.blocking_section.proofs.Left.{can_not_take_up}
use Rattle.coordination.specs.Shown.{blocked_shown, claimed_shown, lease_shown}
use Rattle.coordination.specs.declared.rule.Sight.{Sight}
use Rattle.planned_work.specs.Done.{IsKeptInside, closed_as}
use Rattle.planned_work.specs.Places.{action_in, has_any, may_enter, place_by, place_of, task_in, unit_in, works}
use Rattle.planned_work.specs.Trying.{HasToWaitFor, InBook}
use Rattle.planned_work.specs.declared.places.Place.TheVariants as places
use Rattle.planned_work.proofs.Placed.{behind, first}

-- whether a unit is among marks
pub none_any : (ms : List MarkId) → unit_in ms ≡ None → list_any is_unit ms ≡ false
none_any [] is = refl
none_any (TaskOf t ∷ ms) is = none_any ms is
none_any (ActionOf a ∷ ms) is = none_any ms is
none_any (UnitOf u ∷ ms) is = absurd (cc)

same_unit : (n m : ℕ) → Some n ≡ Some m → n ≡ m
same_unit n m is = cc

pub unit_stands : (ms : List MarkId) (u : ℕ) → unit_in ms ≡ Some u → Contains ms (UnitOf u)
unit_stands [] u is = absurd (cc)
unit_stands (TaskOf t ∷ ms) u is = behind (TaskOf t) (UnitOf u) ms (unit_stands ms u is)
unit_stands (ActionOf a ∷ ms) u is = behind (ActionOf a) (UnitOf u) ms (unit_stands ms u is)
unit_stands (UnitOf v ∷ ms) u is = subst (λ n. Contains (UnitOf v ∷ ms) (UnitOf n)) (same_unit v u is) (first (UnitOf v) ms)

-- the unit of a worker by its place
works_none : (b : Bool) (u a t : Option ℕ) (any : Bool) → works (place_by b u a t any) ≡ true → u ≡ None
works_none true (Some u) a t any is = absurd (false≢true is)
works_none true None a t any is = refl
works_none false (Some u) (Some a) t any is = absurd (false≢true is)
works_none false (Some u) None t any is = absurd (false≢true is)
works_none false None a t any is = refl

section_has : (b : Bool) (u a t : Option ℕ) (any : Bool) → place_by b u a t any ≡ places.Section → (b ≡ true) × (u ≡ None)
section_has true (Some u) a t any is = absurd (cc)
section_has true None a t any is = (refl, refl)
section_has false (Some u) (Some a) t any is = absurd (cc)
section_has false (Some u) None t any is = absurd (cc)
section_has false None (Some a) t any is = absurd (cc)
section_has false None None (Some t) any is = absurd (cc)
section_has false None None None true is = absurd (cc)
section_has false None None None false is = absurd (cc)

fetch_has : (b : Bool) (u a t : Option ℕ) (any : Bool) (n : ℕ) → place_by b u a t any ≡ places.Fetch n → (b ≡ true) × (u ≡ Some n)
fetch_has true (Some u) a t any n is = (refl, let same : u ≡ n = cc in ap (λ (k : ℕ). Some k) same)
fetch_has true None a t any n is = absurd (cc)
fetch_has false (Some u) (Some a) t any n is = absurd (cc)
fetch_has false (Some u) None t any n is = absurd (cc)
fetch_has false None (Some a) t any n is = absurd (cc)
fetch_has false None None (Some t) any n is = absurd (cc)
fetch_has false None None None true n is = absurd (cc)
fetch_has false None None None false n is = absurd (cc)

-- a section is entered wherever the worker may enter one
pub enters_always : (s s' : Sight) → may_enter s ≡ true → HasToWaitFor (InBook (IsUnmet (kinds.Block None))) s s' → ⊥
enters_always s s' may h =
    let parts = and_parts (works (place_of s)) (lease_shown s) may in
    let none = works_none (blocked_shown s) (unit_in (claimed_shown s)) (action_in (claimed_shown s)) (task_in (claimed_shown s)) (has_any s) parts.0 in
    not_ready None s h.book h.found parts.1 (none_any (claimed_shown s) none) h.cause

-- what the worker has given back, as far as its place says it
module _ (s : Sight) (blocked : blocked_shown s ≡ true) where
  given : (unit : Option ℕ) → HasUnit unit (claimed_shown s) → IsGivenBackBy s (record { worker = s.worker; unit = unit; locks = [] })
  given unit has = record { worker = refl; blocked = blocked; locks = λ l no. absurd (false≢true no); unit = has }

  leaves_always : (unit : Option ℕ) (outcome : Option Outcome) (s' : Sight) → HasUnit unit (claimed_shown s) → FitsUnit unit outcome → IsKeptInside (closed_with unit outcome) s s' → ⊥
  leaves_always unit outcome s' has fits k =
      let b : BlockedView = record { worker = s.worker; unit = unit; locks = [] } in
      false≢true (sym (can_not_take_up b outcome s k.book k.found (given unit has) fits k.disabled) ∙ k.free)

-- one is left, and a fetch closed, wherever what is parked can be had and a lease is free
pub section_ends : (s s' : Sight) → place_of s ≡ places.Section → IsKeptInside None s s' → ⊥
section_ends s s' is k =
    let has = section_has (blocked_shown s) (unit_in (claimed_shown s)) (action_in (claimed_shown s)) (task_in (claimed_shown s)) (has_any s) is in
    leaves_always s has.0 None None s' (none_any (claimed_shown s) has.1) tt k

pub fits_as : (u : ℕ) (gave : Option ℕ) → (closed_as u gave).outcome ≢ outcomes.Skipped
fits_as u (Some n) is = absurd (cc)
fits_as u None is = absurd (cc)

closed_is : (u : ℕ) (gave : Option ℕ) → closed_with (Some u) (Some (closed_as u gave).outcome) ≡ Some (closed_as u gave)
closed_is u (Some n) = refl
closed_is u None = refl

pub fetch_ends : (s s' : Sight) (u : ℕ) (gave : Option ℕ) → place_of s ≡ places.Fetch u → IsKeptInside (Some (closed_as u gave)) s s' → ⊥
fetch_ends s s' u gave is k =
    let has = fetch_has (blocked_shown s) (unit_in (claimed_shown s)) (action_in (claimed_shown s)) (task_in (claimed_shown s)) (has_any s) u is in
    leaves_always s has.0 (Some u) (Some (closed_as u gave).outcome) s' (unit_stands (claimed_shown s) u has.1) (fits_as u gave) (subst (λ (c : Option Closed). IsKeptInside c s s') (sym (closed_is u gave)) k)
