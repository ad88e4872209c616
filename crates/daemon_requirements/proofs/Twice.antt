-- Pairs that are gone over one by one, in search of a name that stood before.
use Rattle.std.proofs.Common.{◌≡◌, ◌⊎◌, ℕ, ◌+◌, ◌<◌, ◌≤◌, Bool, true, false, List, length, take, get_or, ap, sym, ◌∙◌, subst, inl, inr, arith, Option, Some, None}
use Rattle.std.specs.Option.{IsSomeAnd}
use Rattle.std.specs.List.{list_any, Any, slice_get}
use Rattle.std.specs.Str.{bytes_eq}
use Rattle.std.proofs.lemmas.Bool.{true≢false, cases_order}
use Rattle.std.proofs.lemmas.List.{get_or-take, length-take-le}
use Rattle.std.proofs.lemmas.List.Folds.{list_any_at, Any-from_list_any}
use Rattle.std.proofs.lemmas.Option.{slice_get_read, slice_get_cases, get_or_from_slice_get}
use Rattle.std.proofs.lemmas.Slice.Eq.{bytes_eq-Decides}
use Rattle.daemon_requirements.specs.declared.fields.Pair.{Pair}
use Rattle.daemon_requirements.specs.declared.requirement.PairList.TheVariants.{Properties, Variables}
use Rattle.daemon_requirements.specs.declared.requirement.RequirementRefusal.{RequirementRefusal}
use Rattle.daemon_requirements.specs.declared.requirement.RequirementRefusal.TheVariants.{HeapRange, TwiceNamed}
use Rattle.daemon_requirements.specs.RequirementsView.{RequirementsView, HasDistinctNames, IsRequirements}
use Rattle.daemon_requirements.specs.Refusals.{IsFirstTwice, IsCauseOf}

-- whether a pair has the name of p
abbrev is_named : Pair → Pair → Bool
is_named p q = bytes_eq q.name p.name

-- the pair at a place, whatever is read past the end
read_at : (pairs : List Pair) (place : ℕ) (p d : Pair) → place < length pairs → p ≡ get_or pairs place p → get_or pairs place d ≡ p
read_at pairs place p d within read = get_or_from_slice_get pairs place p d (slice_get_read pairs (length pairs) place p (λ _. length pairs) within read)

-- a name that is new
pub distinct_more : (pairs : List Pair) (place : ℕ) (p : Pair) → HasDistinctNames (take place pairs) → place < length pairs → p ≡ get_or pairs place p
    → list_any (is_named p) (take place pairs) ≡ false → HasDistinctNames (take (place + 1) pairs)
distinct_more pairs place p distinct within read new i j d lt last same = at (cases_order j place)
  where
    long : length (take place pairs) ≡ place
    long = length-take-le place pairs (omega arith)

    longer : length (take (place + 1) pairs) ≡ place + 1
    longer = length-take-le (place + 1) pairs (omega arith)

    shorter : (k : ℕ) → k < place → get_or (take (place + 1) pairs) k d ≡ get_or (take place pairs) k d
    shorter k below = get_or-take (place + 1) pairs k d (omega arith) ∙ sym (get_or-take place pairs k d below)

    at : (j ≡ place) ⊎ ((j < place) ⊎ (place < j)) → ⊥
    at (inl e) =
        let below : i < place = omega arith in
        let there : get_or (take (place + 1) pairs) j d ≡ p = get_or-take (place + 1) pairs j d (omega arith) ∙ ap (λ k. get_or pairs k d) e ∙ read_at pairs place p d within read in
        let named : (get_or (take place pairs) i d).name ≡ p.name = ap (λ q. q.name) (sym (shorter i below)) ∙ same ∙ ap (λ q. q.name) there in
        let old = list_any_at (is_named p) (take place pairs) i d (omega (arith, long)) ((bytes_eq-Decides _ _).1 named) in
        absurd (true≢false (sym old ∙ new))
    at (inr (inl less)) =
        distinct i j d lt (omega (arith, long)) (ap (λ q. q.name) (sym (shorter i (omega arith))) ∙ same ∙ ap (λ q. q.name) (shorter j less))
    at (inr (inr more)) = absurd (omega (arith, longer))

-- a name that stood before, with none before it
pub first_place : (pairs : List Pair) (place : ℕ) (p : Pair) → HasDistinctNames (take place pairs) → place < length pairs → p ≡ get_or pairs place p
    → list_any (is_named p) (take place pairs) ≡ true → IsFirstTwice pairs place
first_place pairs place p distinct within read old =
    let any = Any-from_list_any (is_named p) (take place pairs) old in
    let there = slice_get_read pairs (length pairs) place p (λ _. length pairs) within read in
    let Twice : Option Pair → Type 0 = λ o. IsSomeAnd o (λ x. Any (λ q. q.name ≡ x.name) (take place pairs)) in
    record {
      twice = subst Twice (sym there) (any.0, any.1, any.2, any.3, (bytes_eq-Decides _ _).0 any.4);
      first = distinct;
    }

-- such a place, and names that are distinct
pub twice_not_distinct : (pairs : List Pair) (place : ℕ) → IsFirstTwice pairs place → HasDistinctNames pairs → ⊥
twice_not_distinct pairs place first distinct = at (slice_get_cases pairs place).1
  where
    at : ((x : Pair) × (place < length pairs) × (slice_get pairs place ≡ Some x) × (get_or pairs place x ≡ x)) ⊎ ((length pairs ≤ place) × (slice_get pairs place ≡ None)) → ⊥
    at (inl there) =
        let any : Any (λ q. q.name ≡ there.0.name) (take place pairs) = subst (λ o. IsSomeAnd o (λ x. Any (λ q. q.name ≡ x.name) (take place pairs))) there.2 first.twice in
        let long : length (take place pairs) ≡ place = length-take-le place pairs (omega (arith, there.1)) in
        let below : any.0 < place = omega (arith, long, any.2) in
        let q_is : get_or pairs any.0 any.1 ≡ any.1 = sym (get_or-take place pairs any.0 any.1 below) ∙ any.3 in
        let p_is : get_or pairs place any.1 ≡ there.0 = read_at pairs place there.0 any.1 there.1 (sym there.3) in
        distinct any.0 place any.1 below there.1 (ap (λ q. q.name) q_is ∙ any.4 ∙ ap (λ q. q.name) (sym p_is))
    at (inr past) = subst (λ o. IsSomeAnd o (λ x. Any (λ q. q.name ≡ x.name) (take place pairs))) past.1 first.twice

-- fields that are refused for a cause are no requirements
pub cause_refuses : (refusal : RequirementRefusal) (p : RequirementsView) → IsCauseOf refusal p → IsRequirements p → ⊥
cause_refuses HeapRange p cause requirements = cause requirements.heap_mb
cause_refuses (TwiceNamed Properties place) p cause requirements = twice_not_distinct p.properties place cause.1 requirements.properties
cause_refuses (TwiceNamed Variables place) p cause requirements = twice_not_distinct p.variables place cause.2 requirements.variables
