-- How many numbers of a rising list are smaller than another: where a search for it ends.
use Rattle.std.proofs.Common.{◌≡◌, ◌≤◌, ◌<◌, ℕ, zero, suc, ◌+◌, List, length, take, get_or, Bool, true, false, refl, ap, ◌∙◌, sym, arith}
use Rattle.std.specs.Prelude.{Result, Ok, Err, nat_eq, nat_lt}
use Rattle.std.specs.Ordering.{nat_cmp}
use Rattle.std.specs.Result.{MatchResult, is_ok}
use Rattle.std.specs.List.{count_by, list_any}
use Rattle.std.specs.List.Sorted.{IsPartitionPoint, IsBinarySearchResult, IsStrictlySortedBy}
use Rattle.std.proofs.lemmas.Bool.{eq-eqb, ne_eqb, ltb-true, ltb-false}
use Rattle.std.proofs.lemmas.List.Elements.{All-from_get_or}
use Rattle.std.proofs.lemmas.List.Folds.{list_any_at, list_any_none}
use Rattle.std.proofs.lemmas.List.Sorted.{searched}
use Rattle.std.proofs.lemmas.Map.Keys.{non_decreasing_from_sorted}
use Rattle.std.proofs.lemmas.List.{take_all}
use Rattle.std.proofs.lemmas.List.Sums.{count_by_more_yes, count_by_more_no}

-- those in front of the place pass the test
in_front : {X : Type 0} (p : X → Bool) (xs : List X) (r : ℕ) (d : X) → r ≤ length xs → IsPartitionPoint (λ y. p y ≡ true) (λ y. p y ≡ false) xs r
    → (i : ℕ) → i ≤ r → count_by p (take i xs) ≡ i
in_front p xs r d within point zero less = refl
in_front p xs r d within point (suc i) less =
    let at : suc i ≡ i + 1 = omega arith in
    let before : count_by p (take i xs) ≡ i = in_front p xs r d within point i (omega (arith, less)) in
    let one = count_by_more_yes p xs i d (omega (arith, less, within)) (point.0 i d (omega arith) (omega (arith, less))) in
    ap (λ k. count_by p (take k xs)) at ∙ (one ∙ (ap (λ n. n + 1) before ∙ sym at))

-- and those behind don't
behind : {X : Type 0} (p : X → Bool) (xs : List X) (r : ℕ) (d : X) → r ≤ length xs → IsPartitionPoint (λ y. p y ≡ true) (λ y. p y ≡ false) xs r
    → (n : ℕ) → r + n ≤ length xs → count_by p (take (r + n) xs) ≡ r
behind p xs r d within point zero less =
    let at : r + 0 ≡ r = omega arith in
    ap (λ k. count_by p (take k xs)) at ∙ in_front p xs r d within point r (omega arith)
behind p xs r d within point (suc n) less =
    let at : r + suc n ≡ r + n + 1 = omega arith in
    let before = behind p xs r d within point n (omega (arith, less)) in
    let one = count_by_more_no p xs (r + n) d (omega (arith, less)) (point.1 (r + n) d (omega arith) (omega (arith, less))) in
    ap (λ k. count_by p (take k xs)) at ∙ (one ∙ before)

pub count_is : {X : Type 0} (p : X → Bool) (xs : List X) (r n : ℕ) (d : X) → r + n ≡ length xs → IsPartitionPoint (λ y. p y ≡ true) (λ y. p y ≡ false) xs r → count_by p xs ≡ r
count_is p xs r n d all point =
    ap (λ l. count_by p l) (sym (take_all (r + n) xs (omega (arith, all)))) ∙ behind p xs r d (omega (arith, all)) point n (omega (arith, all))

-- a search finds exactly what stands in a rising list
searched_by : (xs : List ℕ) (x : ℕ) (r : Result ℕ ℕ)
    → MatchResult r (λ i. (i < length xs) × (get_or xs i 0 ≡ x)) (λ i. (i ≤ length xs) × ((k : ℕ) → k < i → get_or xs k 0 < x) × ((k : ℕ) → i ≤ k → k < length xs → x < get_or xs k 0))
    → is_ok r ≡ list_any (λ m. nat_eq m x) xs
searched_by xs x (Ok i) at = sym (list_any_at (λ m. nat_eq m x) xs i 0 at.0 (eq-eqb (get_or xs i 0) x at.1))
searched_by xs x (Err i) at = sym (list_any_none (λ m. nat_eq m x) xs (All-from_get_or (λ m. nat_eq m x ≡ false) xs 0 (λ k within. other k within (nat_lt k i) refl)))
  where
    other : (k : ℕ) → k < length xs → (b : Bool) → nat_lt k i ≡ b → nat_eq (get_or xs k 0) x ≡ false
    other k within true before = ne_eqb (get_or xs k 0) x (λ same. omega (arith, same, at.1 k (ltb-true k i before)))
    other k within false past = ne_eqb (get_or xs k 0) x (λ same. omega (arith, same, at.2 k (ltb-false k i past) within))

pub searched_for : (xs : List ℕ) (x : ℕ) (r : Result ℕ ℕ) → IsBinarySearchResult (λ y. nat_cmp y x) xs r → IsStrictlySortedBy nat_cmp xs → is_ok r ≡ list_any (λ m. nat_eq m x) xs
searched_for xs x r found rises = searched_by xs x r (searched xs x r found (λ i j less within. non_decreasing_from_sorted xs rises i j 0 less within))
