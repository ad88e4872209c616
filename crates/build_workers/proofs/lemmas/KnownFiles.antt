-- The files that the desks of a run know.
use Rattle.std.proofs.Common.{◌≡◌, ℕ, zero, suc, ◌+◌, ◌<◌, ◌≤◌, ◌⊎◌, inl, inr, Bool, true, false, ◌&&◌, is_some, Option, None, Some, refl, sym, ◌∙◌, ap, subst, arith}
use Rattle.std.specs.Prelude.{if◌then◌else◌}
use Rattle.std.specs.List.{list_all, range_with_len}
use Rattle.std.proofs.lemmas.Bool.{and_parts, cases_lt}
use Rattle.item_actions.specs.Files.{Folder}
use Rattle.build_workers.specs.RunDesks.{AreAlike, known_by}
use Rattle.build_workers.specs.Desks.{DeskView}

-- what holds of each of some numbers
at_each : (p : ℕ → Bool) (first n i : ℕ) → list_all p (range_with_len first n) ≡ true → first ≤ i → i < first + n → p i ≡ true
at_each p first zero i all le lt = absurd (omega (arith, le, lt))
at_each p first (suc n) i all le lt = elim (cases_lt first i) [
  | inl behind ↦ at_each p (first + 1) n i (and_parts _ _ all).1 (omega (arith, behind)) (omega (arith, lt))
  | inr here ↦ let e : first ≡ i = omega (arith, le, here) in subst (λ k. p k ≡ true) e (and_parts _ _ all).0
]

alike_on : (p q : ℕ → Bool) (first n : ℕ) → ((i : ℕ) → p i ≡ q i) → list_all p (range_with_len first n) ≡ list_all q (range_with_len first n)
alike_on p q first zero same = refl
alike_on p q first (suc n) same = rw (same first) (ap (λ b. q first && b) (alike_on p q (first + 1) n same))

abbrev all_know : ℕ → (ℕ → DeskView) → Bool
all_know n desks = list_all (λ i. is_some (desks i).files) (range_with_len 0 n)

-- Where it is said that the desks know files, each of them knows these.
pub known_or_none : (n : ℕ) (desks : ℕ → DeskView) → AreAlike n desks → (i : ℕ) → i < n → (known_by n desks ≡ None) ⊎ (known_by n desks ≡ (desks i).files)
known_or_none n desks alike i low = at (all_know n desks) refl
  where
    some : 0 < n
    some = omega (arith, low)

    both : (one other : Option Folder) → (desks 0).files ≡ one → (desks i).files ≡ other → is_some one ≡ true → is_some other ≡ true → one ≡ other
    both (Some one) (Some other) is are knows too = ap Some (alike 0 i one other some low is are)
    both None other is are knows too = absurd (cc)
    both (Some one) None is are knows too = absurd (cc)

    at : (all : Bool) → all_know n desks ≡ all → (known_by n desks ≡ None) ⊎ (known_by n desks ≡ (desks i).files)
    at false is = inl (ap (λ (all : Bool). if all then (desks 0).files else None) is)
    at true is = inr (ap (λ (all : Bool). if all then (desks 0).files else None) is
        ∙ both (desks 0).files (desks i).files refl refl (at_each _ 0 n 0 is (omega arith) (omega (arith, some))) (at_each _ 0 n i is (omega arith) (omega (arith, low))))

-- the first desk knows them
pub known_first : (n : ℕ) (desks : ℕ → DeskView) (files : Folder) → known_by n desks ≡ Some files → (desks 0).files ≡ Some files
known_first n desks files known = at (all_know n desks) refl
  where
    at : (all : Bool) → all_know n desks ≡ all → (desks 0).files ≡ Some files
    at true is = sym (ap (λ (all : Bool). if all then (desks 0).files else None) is) ∙ known
    at false is = absurd (let none = sym (ap (λ (all : Bool). if all then (desks 0).files else None) is) ∙ known in cc none)

-- Desks that know the same as others.
module _ (n : ℕ) (one other : ℕ → DeskView) (same : (i : ℕ) → (one i).files ≡ (other i).files) where
  pub known_same : known_by n one ≡ known_by n other
  known_same =
      ap (λ (all : Bool). if all then (one 0).files else None) (alike_on (λ i. is_some (one i).files) (λ i. is_some (other i).files) 0 n (λ i. ap is_some (same i)))
      ∙ ap (λ (known : Option Folder). if all_know n other then known else None) (same 0)

  pub still_alike : AreAlike n one → AreAlike n other
  still_alike alike = λ i j x y low high is are. alike i j x y low high (same i ∙ is) (same j ∙ are)
