-- A number that was written is read again, and what is read was written so.
use Rattle.std.proofs.Common.{◌≡◌, ℕ, ◌+◌, ◌-◌, ◌*◌, ◌/◌, ◌%◌, ◌^◌, ◌<◌, ◌≤◌, suc, zero, List, [], ◌∷◌, ◌++◌, Option, Some, None, Bool, true, false, refl, sym, ap, subst, ◌∙◌, append_assoc, append-nil, arith, decimal, nat_lt, nat_le, nat_eq, ◌&&◌, cond, inl, inr, ◌⊎◌, ◌≢◌}
use Rattle.std.proofs.lemmas.Fmt.{decimal_step, decimal_digit, decimal_by_steps}
use Rattle.std.proofs.lemmas.Bool.Decides.{nat_tests}
use Rattle.std.proofs.lemmas.Bool.{and_parts, and_from, leb-true, le-leb, ltb-true, lt-ltb, eqb-true, eq-eqb, ne_eqb, false≢true, eqb-false}
use Rattle.history_text.specs.Reading.{◌>>=◌, is_digit, number_after, number_at, begins_with_digit}

pub digit_is : (d : ℕ) → d < 10 → is_digit (48 + d) ≡ true
digit_is d h = and_from _ _ (le-leb 48 (48 + d) (omega arith)) (le-leb (48 + d) 57 (omega arith))

pub digit_from : (c : ℕ) → is_digit c ≡ true → (48 ≤ c) × (c ≤ 57)
digit_from c h = (leb-true 48 c (and_parts _ _ h).0, leb-true c 57 (and_parts _ _ h).1)

-- what was read: the digits of the number so far, and those that were read, are the digits of the number that was answered
pub record WasNumber (limit n : ℕ) (text : List ℕ) (x : ℕ × List ℕ) : Type 0 where
  pub below : x.0 < limit
  pub digits : decimal n ++ text ≡ decimal x.0 ++ x.1

pub chosen : {A : Type 0} (b : Bool) (x y : A) (z : A) → cond b x y ≡ z → ((b ≡ true) × (x ≡ z)) ⊎ ((b ≡ false) × (y ≡ z))
chosen true x y z h = inl (refl, h)
chosen false x y z h = inr (refl, h)

some_is : {A : Type 0} {x y : A} → Some x ≡ Some y → x ≡ y
some_is e = cc

pub digits_taken : (limit n : ℕ) (text : List ℕ) (x : ℕ × List ℕ) → 0 < n → n < limit → limit ≤ 2 ^ 64 → number_after limit n text ≡ Some x → WasNumber limit n text x
digits_taken limit n [] x some below small e =
    let is : (n, []) ≡ x = some_is e in
    subst (λ (y : ℕ × List ℕ). WasNumber limit n [] y) is (record { below = below; digits = refl })
digits_taken limit n (c ∷ text) x some below small e = at (λ m. digits_taken limit m text x) (chosen (is_digit c) _ _ _ e)
  where
    more : ((m : ℕ) → 0 < m → m < limit → limit ≤ 2 ^ 64 → number_after limit m text ≡ Some x → WasNumber limit m text x) → is_digit c ≡ true → ((nat_lt (n * 10 + (c - 48)) limit ≡ true) × (number_after limit (n * 10 + (c - 48)) text ≡ Some x)) → WasNumber limit n (c ∷ text) x
    more again d h =
        let range : (48 ≤ c) × (c ≤ 57) = digit_from c d in
        let m : ℕ = n * 10 + (c - 48) in
        let within : n * 10 + (c - 48) < limit = ltb-true _ _ h.0 in
        let rest : WasNumber limit (n * 10 + (c - 48)) text x = again (n * 10 + (c - 48)) (omega arith) within small h.1 in
        let front : (n * 10 + (c - 48)) / 10 ≡ n = omega arith in
        let back : 48 + (n * 10 + (c - 48)) % 10 ≡ c = omega arith in
        let step : decimal (n * 10 + (c - 48)) ≡ decimal n ++ c ∷ [] = decimal_step (n * 10 + (c - 48)) (omega arith) (omega arith) ∙ (ap (λ k. decimal k ++ (48 + (n * 10 + (c - 48)) % 10) ∷ []) front ∙ ap (λ k. decimal n ++ k ∷ []) back) in
        record { below = rest.below; digits = sym (append_assoc (decimal n) (c ∷ []) text) ∙ (ap (λ l. l ++ text) (sym step) ∙ rest.digits) }

    inside : ((m : ℕ) → 0 < m → m < limit → limit ≤ 2 ^ 64 → number_after limit m text ≡ Some x → WasNumber limit m text x) → is_digit c ≡ true → (((nat_lt (n * 10 + (c - 48)) limit ≡ true) × (number_after limit (n * 10 + (c - 48)) text ≡ Some x)) ⊎ ((nat_lt (n * 10 + (c - 48)) limit ≡ false) × (None ≡ Some x))) → WasNumber limit n (c ∷ text) x
    inside again d (inl h) = more again d h
    inside again d (inr h) = let no : ⊥ = (let q : None ≡ Some x = h.1 in cc) in absurd no

    at : ((m : ℕ) → 0 < m → m < limit → limit ≤ 2 ^ 64 → number_after limit m text ≡ Some x → WasNumber limit m text x) → (((is_digit c ≡ true) × (cond (nat_lt (n * 10 + (c - 48)) limit) (number_after limit (n * 10 + (c - 48)) text) None ≡ Some x)) ⊎ ((is_digit c ≡ false) × (Some (n, c ∷ text) ≡ Some x))) → WasNumber limit n (c ∷ text) x
    at again (inl h) = inside again h.0 (chosen (nat_lt (n * 10 + (c - 48)) limit) _ _ _ h.1)
    at again (inr h) = subst (λ (y : ℕ × List ℕ). WasNumber limit n (c ∷ text) y) (some_is h.1) (record { below = below; digits = refl })

pub number_taken : (limit : ℕ) (text : List ℕ) (x : ℕ × List ℕ) → 10 ≤ limit → limit ≤ 2 ^ 64 → number_at limit text ≡ Some x → (x.0 < limit) × (text ≡ decimal x.0 ++ x.1)
number_taken limit [] x low small e = absurd (let q : None ≡ Some x = e in let no : ⊥ = cc in no)
number_taken limit (c ∷ text) x low small e = at (chosen (is_digit c) _ _ _ e)
  where
    zero_at : is_digit c ≡ true → ((nat_eq c 48 ≡ true) × (cond (begins_with_digit text) None (Some (0, text)) ≡ Some x)) → (x.0 < limit) × (c ∷ text ≡ decimal x.0 ++ x.1)
    zero_at d h = last (chosen (begins_with_digit text) _ _ _ h.1)
      where
        last : (((begins_with_digit text ≡ true) × (None ≡ Some x)) ⊎ ((begins_with_digit text ≡ false) × (Some (0, text) ≡ Some x))) → (x.0 < limit) × (c ∷ text ≡ decimal x.0 ++ x.1)
        last (inl k) = absurd (let q : None ≡ Some x = k.1 in let no : ⊥ = cc in no)
        last (inr k) = subst (λ (y : ℕ × List ℕ). (y.0 < limit) × (c ∷ text ≡ decimal y.0 ++ y.1)) (some_is k.1) (omega arith, ap (λ l. l ∷ text) (eqb-true c 48 h.0) ∙ ap (λ l. l ++ text) (sym (decimal_digit 0 (omega arith))))

    high : is_digit c ≡ true → nat_eq c 48 ≡ false → number_after limit (c - 48) text ≡ Some x → (x.0 < limit) × (c ∷ text ≡ decimal x.0 ++ x.1)
    high d other k =
        let range : (48 ≤ c) × (c ≤ 57) = digit_from c d in
        let ne : c ≢ 48 = eqb-false c 48 other in
        let was : WasNumber limit (c - 48) text x = digits_taken limit (c - 48) text x (omega arith) (omega arith) small k in
        let same : 48 + (c - 48) ≡ c = omega arith in
        (was.below, ap (λ b. b ∷ text) (sym same) ∙ (ap (λ l. l ++ text) (sym (decimal_digit (c - 48) (omega arith))) ∙ was.digits))

    inside : is_digit c ≡ true → (((nat_eq c 48 ≡ true) × (cond (begins_with_digit text) None (Some (0, text)) ≡ Some x)) ⊎ ((nat_eq c 48 ≡ false) × (number_after limit (c - 48) text ≡ Some x))) → (x.0 < limit) × (c ∷ text ≡ decimal x.0 ++ x.1)
    inside d (inl h) = zero_at d h
    inside d (inr h) = high d h.0 h.1

    at : (((is_digit c ≡ true) × (cond (nat_eq c 48) (cond (begins_with_digit text) None (Some (0, text))) (number_after limit (c - 48) text) ≡ Some x)) ⊎ ((is_digit c ≡ false) × (None ≡ Some x))) → (x.0 < limit) × (c ∷ text ≡ decimal x.0 ++ x.1)
    at (inl h) = inside h.0 (chosen (nat_eq c 48) _ _ _ h.1)
    at (inr h) = absurd (let q : None ≡ Some x = h.1 in let no : ⊥ = cc in no)

-- the digits of a number are read as that number, whatever follows
record ReadsOn (limit : ℕ) (n : ℕ) (ds : List ℕ) : Type 0 where
  on : 0 < n → n < limit → (rest : List ℕ) → number_at limit (ds ++ rest) ≡ number_after limit n rest

reads_one : (limit n : ℕ) → n < 10 → ReadsOn limit n ((48 + n) ∷ [])
reads_one limit n one = record {
  on = λ some below rest.
      let digit : is_digit (48 + n) ≡ true = digit_is n one in
      let other : nat_eq (48 + n) 48 ≡ false = ne_eqb (48 + n) 48 (let ne : (48 + n) ≢ 48 = omega arith in ne) in
      let back : 48 + n - 48 ≡ n = omega arith in
      ap (λ b. cond b (cond (nat_eq (48 + n) 48) (cond (begins_with_digit rest) None (Some (0, rest))) (number_after limit (48 + n - 48) rest)) None) digit
      ∙ (ap (λ b. cond b (cond (begins_with_digit rest) None (Some (0, rest))) (number_after limit (48 + n - 48) rest)) other
      ∙ ap (λ m. number_after limit m rest) back);
}

reads_more : (limit n : ℕ) (ds : List ℕ) → 10 ≤ n → ReadsOn limit (n / 10) ds → ReadsOn limit n (ds ++ ((48 + n % 10) ∷ []))
reads_more limit n ds long front = record {
  on = λ some below rest.
      let digit : is_digit (48 + n % 10) ≡ true = digit_is (n % 10) (omega arith) in
      let back : n / 10 * 10 + (48 + n % 10 - 48) ≡ n = omega arith in
      let within : nat_lt n limit ≡ true = lt-ltb n limit below in
      ap (number_at limit) (append_assoc ds ((48 + n % 10) ∷ []) rest)
      ∙ (front.on (omega arith) (omega arith) ((48 + n % 10) ∷ rest)
      ∙ (ap (λ b. cond b (cond (nat_lt (n / 10 * 10 + (48 + n % 10 - 48)) limit) (number_after limit (n / 10 * 10 + (48 + n % 10 - 48)) rest) None) (Some (n / 10, (48 + n % 10) ∷ rest))) digit
      ∙ (ap (λ m. cond (nat_lt m limit) (number_after limit m rest) None) back
      ∙ ap (λ b. cond b (number_after limit n rest) None) within)));
}

stops_here : (limit n : ℕ) (rest : List ℕ) → begins_with_digit rest ≡ false → number_after limit n rest ≡ Some (n, rest)
stops_here limit n [] h = refl
stops_here limit n (c ∷ rest) h = ap (λ b. cond b (cond (nat_lt (n * 10 + (c - 48)) limit) (number_after limit (n * 10 + (c - 48)) rest) None) (Some (n, c ∷ rest))) h

pub number_again : (limit n : ℕ) (rest : List ℕ) → n < limit → limit ≤ 2 ^ 64 → begins_with_digit rest ≡ false → number_at limit (decimal n ++ rest) ≡ Some (n, rest)
number_again limit zero rest below small h = ap (λ l. number_at limit (l ++ rest)) (decimal_digit 0 (omega arith)) ∙ ap (λ b. cond b None (Some (0, rest))) h
number_again limit (suc n) rest below small h =
    (decimal_by_steps (ReadsOn limit) (reads_one limit) (λ m ds. reads_more limit m ds) (suc n) (omega arith)).on (omega arith) below rest ∙ stops_here limit (suc n) rest h
