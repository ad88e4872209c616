-- Needles of which no two occurrences overlap.
use Rattle.std.proofs.Common.{◌≡◌, ℕ, zero, suc, ◌+◌, ◌-◌, ◌<◌, ◌≤◌, Bool, true, false, cond, List, ◌∷◌, length, max, get_or, count_by, refl, sym, ap, ◌∙◌, arith, ⊎_elim}
use Rattle.std.specs.List.{range_with_len}
use Rattle.std.proofs.lemmas.Bool.{cases_Bool}
use Rattle.std.proofs.lemmas.List.Sums.{sum_by-cons}
use Rattle.memchr.specs.Find.{occurs_at, matches_from}
use Rattle.memchr.proofs.lemmas.MatchLemmas.{OccursAt-true}
use Rattle.item_actions.specs.Bytes.{FirstIsAlone, occurrences}
use Rattle.item_actions.proofs.Counts.{count_range-add, count_range-none}

module _ (bytes needle : List ℕ) where
  too_far : (p : ℕ) → length bytes < p + length needle → occurs_at bytes needle p ≡ false
  too_far p far = ⊎_elim (λ found. absurd (omega (arith, (OccursAt-true bytes needle p found).fits))) (λ missing. missing) (cases_Bool (occurs_at bytes needle p))

  none_later : FirstIsAlone needle → (i k : ℕ) → occurs_at bytes needle i ≡ true → i < k → k < i + length needle → occurs_at bytes needle k ≡ false
  none_later alone i k occurs after before = ⊎_elim
      (λ found.
      let here : get_or bytes (k + 0) 0 ≡ get_or needle 0 0 = (OccursAt-true bytes needle k found).reads 0 (omega arith) in
      let there : get_or bytes (i + (k - i)) 0 ≡ get_or needle (k - i) 0 = (OccursAt-true bytes needle i occurs).reads (k - i) (omega arith) in
      let same : i + (k - i) ≡ k + 0 = omega arith in
      absurd (alone (k - i) (omega arith) (omega arith) (sym there ∙ ap (λ n. get_or bytes n 0) same ∙ here)))
      (λ missing. missing)
      (cases_Bool (occurs_at bytes needle k))

  one_more : (q : Bool) (i : ℕ) (later other : List ℕ) (n : ℕ) → (q ≡ true → length later ≡ n) → (q ≡ false → length other ≡ n) → length (cond q (i ∷ later) other) ≡ cond q 1 0 + n
  one_more true i later other n found missing = omega (arith, found refl)
  one_more false i later other n found missing = omega (arith, missing refl)

  counted : FirstIsAlone needle → (s i n : ℕ) → ((k : ℕ) → i ≤ k → k < i + s → occurs_at bytes needle k ≡ false)
      → length (matches_from bytes needle s i n) ≡ count_by (occurs_at bytes needle) (range_with_len i n)
  unfolding matches_from
  counted alone s i zero none = refl
  counted alone (suc s) i (suc n) none =
      let q = occurs_at bytes needle in
      let rest = count_by q (range_with_len (i + 1) n) in
      let first : rest ≡ cond false 1 0 + rest = omega arith in
      counted alone s (i + 1) n (λ k low high. none k (omega arith) (omega arith))
      ∙ first
      ∙ (λ j. cond (sym (none i (omega arith) (omega arith)) j) 1 0 + rest)
      ∙ sym (sum_by-cons (λ k. cond (q k) 1 0) i (range_with_len (i + 1) n))
  counted alone zero i (suc n) none =
      let q = occurs_at bytes needle in
      one_more (q i) i (matches_from bytes needle (max (length needle) 1 - 1) (i + 1) n) (matches_from bytes needle 0 (i + 1) n) (count_by q (range_with_len (i + 1) n))
      (λ found. counted alone (max (length needle) 1 - 1) (i + 1) n (λ k low high. none_later alone i k found (omega arith) (omega arith)))
      (λ _. counted alone 0 (i + 1) n (λ k low high. absurd (omega arith)))
      ∙ sym (sum_by-cons (λ k. cond (q k) 1 0) i (range_with_len (i + 1) n))

  -- such a needle is found as often as there are places where it stands
  pub occurrences-places : FirstIsAlone needle → (places : ℕ) → places ≡ length bytes + 1 - length needle → occurrences needle bytes ≡ count_by (occurs_at bytes needle) (range_with_len 0 places)
  unfolding occurrences
  occurrences-places alone places fit =
      let q = occurs_at bytes needle in
      let parts : length bytes + 1 - 0 ≡ places + (length bytes + 1 - places) = omega arith in
      let none = count_range-none q (0 + places) (length bytes + 1 - places) (λ k low high. too_far k (omega arith)) in
      counted alone 0 0 (length bytes + 1 - 0) (λ k low high. absurd (omega arith))
      ∙ ap (λ n. count_by q (range_with_len 0 n)) parts
      ∙ count_range-add q 0 places (length bytes + 1 - places)
      ∙ omega (arith, none)
