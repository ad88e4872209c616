-- Marks of the numbers that are in a list.
use Rattle.std.proofs.Common.{◌≡◌, ◌==◌, ◌||◌, ◌<◌, ◌≤◌, ◌≢◌, ℕ, Bool, true, false, cond, List, [], ◌∷◌, ◌++◌, length, get_or, set, refl, ap, sym, subst, ◌∙◌, arith, inl, inr, get_or-set_same, get_or-set_other}
use Rattle.std.specs.List.{list_any}
use Rattle.std.proofs.lemmas.Bool.{cases_eq, ne_eqb, eq-eqb}
use Rattle.std.proofs.lemmas.List.{length-set}
use Rattle.std.proofs.lemmas.List.Folds.{list_any-append}
use Rattle.indexmap.specs.IndexSet.{insert_key}
use Rattle.plan_reader.specs.Names.{AreMarked}

abbrev among : List ℕ → ℕ → Bool
among ns k = list_any (λ n. k == n) ns

pub first_marked : (marks : List ℕ) (mark : ℕ) → ((k : ℕ) → get_or marks k 0 < mark) → AreMarked marks mark []
first_marked marks mark fresh = record {
  not_later = λ k. omega (arith, fresh k);
  exact = λ k within. ne_eqb (get_or marks k 0) mark (omega (arith, fresh k));
}

one_more : (a b c d : Bool) → a ≡ b → c ≡ d → (a || (c || false)) ≡ (b || (d || false))
one_more a b c d e f = ap (λ x. x || (c || false)) e ∙ ap (λ x. b || (x || false)) f

or_none : (a : Bool) → (a || (false || false)) ≡ a
or_none true = refl
or_none false = refl

or_one : (a : Bool) → (a || (true || false)) ≡ true
or_one true = refl
or_one false = refl

pub marked_anew : (marks : List ℕ) (mark n : ℕ) (ns : List ℕ) → n < length marks → AreMarked marks mark ns → AreMarked (set marks n mark) mark (ns ++ n ∷ [])
marked_anew marks mark n ns within are = record {
  not_later = λ k. elim (cases_eq k n) [
    | inl same ↦ subst (λ j. get_or (set marks n mark) j 0 ≤ mark) (sym same) (omega (arith, get_or-set_same marks n mark 0 within))
    | inr other ↦ omega (arith, get_or-set_other marks n k mark 0 other, are.not_later k)
  ];
  exact = λ k short.
      let more : among (ns ++ n ∷ []) k ≡ (among ns k || ((k == n) || false)) = list_any-append (λ m. k == m) ns (n ∷ []) in
      elim (cases_eq k n) [
        | inl same ↦
            let there : (get_or (set marks n mark) k 0 == mark) ≡ true = eq-eqb _ _ (ap (λ j. get_or (set marks n mark) j 0) same ∙ get_or-set_same marks n mark 0 within) in
            there ∙ sym (more ∙ ap (λ b. among ns k || (b || false)) (eq-eqb k n same) ∙ or_one (among ns k))
        | inr other ↦
            let long : k < length marks = omega (arith, short, length-set marks n mark) in
            let before : (get_or (set marks n mark) k 0 == mark) ≡ among ns k = ap (λ m. m == mark) (get_or-set_other marks n k mark 0 other) ∙ are.exact k long in
            before ∙ sym (more ∙ ap (λ b. among ns k || (b || false)) (ne_eqb k n other) ∙ or_none (among ns k))
      ];
}

pub added : (marks : List ℕ) (mark n : ℕ) (ns : List ℕ) → n < length marks → AreMarked marks mark ns → get_or marks n 0 ≢ mark → ns ++ n ∷ [] ≡ insert_key (λ a b. a == b) ns n
added marks mark n ns within are other =
    let absent : among ns n ≡ false = sym (are.exact n within) ∙ ne_eqb (get_or marks n 0) mark other in
    sym (ap (λ b. cond b ns (ns ++ n ∷ [])) absent)

pub kept : (marks : List ℕ) (mark n : ℕ) (ns : List ℕ) → n < length marks → AreMarked marks mark ns → get_or marks n 0 ≡ mark → ns ≡ insert_key (λ a b. a == b) ns n
kept marks mark n ns within are same =
    let there : among ns n ≡ true = sym (are.exact n within) ∙ eq-eqb (get_or marks n 0) mark same in
    sym (ap (λ b. cond b ns (ns ++ n ∷ [])) there)
