-- The least number that passes a test.
use Rattle.std.proofs.Common.{◌≡◌, ℕ, zero, suc, ◌+◌, ◌<◌, ◌≤◌, Bool, true, false, Some, None, refl, ap, sym, subst, arith, inl, inr}
use Rattle.std.proofs.lemmas.Bool.{cases_eq, cases_Bool}
use Rattle.std.proofs.lemmas.Option.{none-some}
use Rattle.std.specs.Option.{option_map_or}
use Rattle.plan_reader.specs.NameNumbers.{least_from}

pub least_none : (test : ℕ → Bool) (i n : ℕ) → ((k : ℕ) → i ≤ k → k < i + n → test k ≡ false) → least_from test i n ≡ None
least_none test i zero h = refl
least_none test i (suc n) h =
    let here : test i ≡ false = h i (omega arith) (omega arith) in
    rw here (least_none test (i + 1) n (λ k a b. h k (omega arith) (omega arith)))

pub least_some : (test : ℕ → Bool) (i n j : ℕ) → i ≤ j → j < i + n → ((k : ℕ) → i ≤ k → k < j → test k ≡ false) → test j ≡ true → least_from test i n ≡ Some j
least_some test i zero j a b h t = absurd (omega arith)
least_some test i (suc n) j a b h t =
    elim (cases_eq i j) [
      | inl same ↦ rw same (rw t refl)
      | inr other ↦
          let here : test i ≡ false = h i (omega arith) (omega arith) in
          rw here (least_some test (i + 1) n j (omega arith) (omega arith) (λ k c d. h k (omega arith) d) t)
    ]

some_is : (i j : ℕ) → Some i ≡ Some j → i ≡ j
some_is i j e = ap (λ o. option_map_or (λ n. n) o 0) e

pub least_within : (test : ℕ → Bool) (i n j : ℕ) → least_from test i n ≡ Some j → (i ≤ j) × (j < i + n)
least_within test i zero j e = absurd (none-some j e)
least_within test i (suc n) j e =
    elim (cases_Bool (test i)) [
      | inl passes ↦ let here : i ≡ j = some_is i j (rw passes at e) in (omega (arith, here), omega (arith, here))
      | inr fails ↦ let later = least_within test (i + 1) n j (rw fails at e) in (omega (arith, later.0), omega (arith, later.1))
    ]

pub least_fails : (test : ℕ → Bool) (i n : ℕ) → least_from test i n ≡ None → (k : ℕ) → i ≤ k → k < i + n → test k ≡ false
least_fails test i zero e k low high = absurd (omega (arith, low, high))
least_fails test i (suc n) e k low high =
    elim (cases_Bool (test i)) [
      | inl passes ↦ absurd (none-some i (sym (rw passes at e)))
      | inr fails ↦
          elim (cases_eq i k) [
            | inl same ↦ rw (sym same) fails
            | inr other ↦ least_fails test (i + 1) n (rw fails at e) k (omega arith) (omega arith)
          ]
    ]

pub least_first : (test : ℕ → Bool) (i n j : ℕ) → least_from test i n ≡ Some j → (test j ≡ true) × ((k : ℕ) → i ≤ k → k < j → test k ≡ false)
least_first test i zero j e = absurd (none-some j e)
least_first test i (suc n) j e =
    elim (cases_Bool (test i)) [
      | inl passes ↦
          let here : i ≡ j = some_is i j (rw passes at e) in
          (subst (λ k. test k ≡ true) here passes, λ k low high. absurd (omega (arith, here, low, high)))
      | inr fails ↦
          let later = least_first test (i + 1) n j (rw fails at e) in (
            later.0,
            λ k low high. elim (cases_eq i k) [
              | inl same ↦ rw (sym same) fails
              | inr other ↦ later.1 k (omega (arith, low, other)) high
            ],
          )
    ]
