-- The laws of words, and of choices among them.
use Rattle.std.proofs.Common.{◌≡◌, ℕ, ◌+◌, ◌^◌, ◌<◌, ◌≤◌, List, [], ◌∷◌, ◌++◌, Option, Some, None, Bool, true, false, refl, sym, ap, subst, ◌∙◌, append_assoc, arith, decimal, nat_eq, cond, codes, length}
use Rattle.std.proofs.lemmas.Bool.{eqb-true, eq-eqb, false≢true, true≢false}
use Rattle.history_text.specs.Reading.{◌>>=◌, on, after, branch, number_at, number_as, plain}
use Rattle.history_text.proofs.Numbers.{number_taken}

-- what was read is spelled so, and fits
pub record Spelled {A : Type 0} (spell : A → List ℕ) (fits : A → Type 0) (text : List ℕ) (y : A × List ℕ) : Type 0 where
  pub is : text ≡ spell y.0 ++ y.1
  pub fits_it : fits y.0

pub some_is : {A : Type 0} {x y : A} → Some x ≡ Some y → x ≡ y
some_is e = cc

pub none_some : {A : Type 0} {y : A} → None ≡ Some y → ⊥
none_some e = cc

pub bind_some : {A B : Type 0} (r : Option A) (f : A → Option B) (y : B) → (r >>= f) ≡ Some y → (x : A) × (r ≡ Some x) × (f x ≡ Some y)
bind_some None f y e = absurd (none_some e)
bind_some (Some x) f y e = (x, refl, e)

pub nil_from : {X : Type 0} (xs : List X) → nat_eq (length xs) 0 ≡ true → xs ≡ []
nil_from [] e = refl
nil_from (x ∷ xs) e = absurd (let long : length (x ∷ xs) ≡ 0 = eqb-true (length (x ∷ xs)) 0 e in omega arith)

pub not_nil : {X : Type 0} (xs : List X) → nat_eq (length xs) 0 ≡ false → xs ≡ [] → ⊥
not_nil xs e is = true≢false (sym (ap (λ l. nat_eq (length l) 0) is) ∙ e)

pub after_taken : (word text rest : List ℕ) → after word text ≡ Some rest → text ≡ word ++ rest
after_taken [] text rest e = some_is e
after_taken (b ∷ word) [] rest e = absurd (none_some e)
after_taken (b ∷ word) (c ∷ text) rest e = at (nat_eq b c) refl (λ k. after_taken word text rest k)
  where
    at : (same : Bool) → nat_eq b c ≡ same → (after word text ≡ Some rest → text ≡ word ++ rest) → c ∷ text ≡ b ∷ (word ++ rest)
    at true s again = ap (λ x. x ∷ text) (sym (eqb-true b c s)) ∙ ap (λ l. b ∷ l) (again (sym (ap (λ x. cond x (after word text) None) s) ∙ e))
    at false s again = absurd (none_some (sym (ap (λ x. cond x (after word text) None) s) ∙ e))

pub after_again : (word rest : List ℕ) → after word (word ++ rest) ≡ Some rest
after_again [] rest = refl
after_again (b ∷ word) rest = ap (λ x. cond x (after word (word ++ rest)) None) (eq-eqb b b refl) ∙ after_again word rest

-- a choice: by what was read behind the word, or by the other
pub either : {A Q : Type 0} (word text : List ℕ) (f : List ℕ → Option A) (other : Option A) (y : A) → branch word text f other ≡ Some y
    → ((rest : List ℕ) → text ≡ word ++ rest → f rest ≡ Some y → Q) → (other ≡ Some y → Q) → Q
unfolding branch
either {A} {Q} word text f other y e one two = at (after word text) refl
  where
    at : (r : Option (List ℕ)) → after word text ≡ r → Q
    at None s = two (sym (ap (λ x. on x f other) s) ∙ e)
    at (Some rest) s = one rest (after_taken word text rest s) (sym (ap (λ x. on x f other) s) ∙ e)

pub plain_spelled : {A : Type 0} (spell : A → List ℕ) (fits : A → Type 0) (value : A) (text rest : List ℕ) (y : A × List ℕ) → fits value → text ≡ spell value ++ rest → Some (value, rest) ≡ Some y → Spelled spell fits text y
plain_spelled spell fits value text rest y good is e = subst (λ z. Spelled spell fits text z) (some_is e) (record { is = is; fits_it = good })

pub numbered_spelled : {A : Type 0} (spell : A → List ℕ) (fits : A → Type 0) (make : ℕ → A) (word text rest : List ℕ) (y : A × List ℕ) → ((n : ℕ) → spell (make n) ≡ word ++ decimal n) → ((n : ℕ) → n < 2 ^ 32 → fits (make n)) → text ≡ word ++ rest → number_as make rest ≡ Some y → Spelled spell fits text y
numbered_spelled spell fits make word text rest y spells good is e =
    let read = bind_some (number_at (2 ^ 32) rest) (λ n. Some (make n.0, n.1)) y e in
    let number = number_taken (2 ^ 32) rest read.0 (omega arith) (omega arith) read.1 in
    subst (λ z. Spelled spell fits text z) (some_is read.2) (record {
      is = is ∙ (ap (λ l. word ++ l) number.1 ∙ (sym (append_assoc word (decimal read.0.0) read.0.1) ∙ ap (λ l. l ++ read.0.1) (sym (spells read.0.0))));
      fits_it = good read.0.0 number.0;
    })
