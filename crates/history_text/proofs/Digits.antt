-- Of what a number's text consists: digits alone, of which there is one at least.
use Rattle.std.proofs.Common.{◌≡◌, ◌≢◌, ℕ, ◌+◌, ◌/◌, ◌%◌, ◌<◌, ◌≤◌, suc, zero, List, [], ◌∷◌, ◌++◌, Option, Some, None, Bool, true, false, refl, sym, ap, ◌∙◌, arith, decimal, codes, nat_eq, cond, nat_le, ◌&&◌}
use Rattle.std.specs.Fmt.{digit_glyph, digits, digits_onto}
use Rattle.std.specs.List.{list_all}
use Rattle.std.proofs.lemmas.Bool.{and_from, and_parts, lt-ltb, ne_eqb, eqb-true, true≢false}
use Rattle.history_text.specs.Reading.{after, is_digit, begins_with_digit}
use Rattle.history_text.proofs.Numbers.{digit_is, digit_from}

glyph_is : (d : ℕ) → d < 10 → digit_glyph false d ≡ 48 + d
glyph_is d few = ap (λ b. cond b (48 + d) (87 + d)) (lt-ltb d 10 few)

step_passes : (p : ℕ → Bool) → ((d : ℕ) → d < 10 → p (48 + d) ≡ true) → (n : ℕ) → p (digit_glyph false (n % 10)) ≡ true
step_passes p digit n = ap p (glyph_is (n % 10) (omega arith)) ∙ digit (n % 10) (omega arith)

onto_passes : (p : ℕ → Bool) → ((d : ℕ) → d < 10 → p (48 + d) ≡ true) → (k n : ℕ) (acc : List ℕ) → list_all p acc ≡ true → list_all p (digits_onto k 10 false n acc) ≡ true
onto_passes p digit zero n acc all = all
onto_passes p digit (suc k) n acc all = at (λ m ds h. onto_passes p digit k m ds h) (nat_eq (n / 10) 0) refl
  where
    next : list_all p (digit_glyph false (n % 10) ∷ acc) ≡ true
    next = and_from _ _ (step_passes p digit n) all

    at : ((m : ℕ) (ds : List ℕ) → list_all p ds ≡ true → list_all p (digits_onto k 10 false m ds) ≡ true) → (b : Bool) → nat_eq (n / 10) 0 ≡ b → list_all p (digits_onto (suc k) 10 false n acc) ≡ true
    at again true s = ap (λ b. list_all p (cond b (digit_glyph false (n % 10) ∷ acc) (digits_onto k 10 false (n / 10) (digit_glyph false (n % 10) ∷ acc)))) s ∙ next
    at again false s = ap (λ b. list_all p (cond b (digit_glyph false (n % 10) ∷ acc) (digits_onto k 10 false (n / 10) (digit_glyph false (n % 10) ∷ acc)))) s ∙ again (n / 10) (digit_glyph false (n % 10) ∷ acc) next

-- a test that each digit passes is passed by all of a number's text
pub all_of_decimal : (p : ℕ → Bool) → ((d : ℕ) → d < 10 → p (48 + d) ≡ true) → (n : ℕ) → list_all p (decimal n) ≡ true
unfolding digits
all_of_decimal p digit n = onto_passes p digit 64 n [] refl

onto_begins : (k n : ℕ) (acc : List ℕ) → begins_with_digit acc ≡ true → begins_with_digit (digits_onto k 10 false n acc) ≡ true
onto_begins zero n acc first = first
onto_begins (suc k) n acc first = at (λ m ds h. onto_begins k m ds h) (nat_eq (n / 10) 0) refl
  where
    at : ((m : ℕ) (ds : List ℕ) → begins_with_digit ds ≡ true → begins_with_digit (digits_onto k 10 false m ds) ≡ true) → (b : Bool) → nat_eq (n / 10) 0 ≡ b → begins_with_digit (digits_onto (suc k) 10 false n acc) ≡ true
    at again true s = ap (λ b. begins_with_digit (cond b (digit_glyph false (n % 10) ∷ acc) (digits_onto k 10 false (n / 10) (digit_glyph false (n % 10) ∷ acc)))) s ∙ step_passes is_digit digit_is n
    at again false s = ap (λ b. begins_with_digit (cond b (digit_glyph false (n % 10) ∷ acc) (digits_onto k 10 false (n / 10) (digit_glyph false (n % 10) ∷ acc)))) s ∙ again (n / 10) (digit_glyph false (n % 10) ∷ acc) (step_passes is_digit digit_is n)

begins_after_one : (k n : ℕ) → begins_with_digit (digits_onto (suc k) 10 false n []) ≡ true
begins_after_one k n = at (nat_eq (n / 10) 0) refl
  where
    at : (b : Bool) → nat_eq (n / 10) 0 ≡ b → begins_with_digit (digits_onto (suc k) 10 false n []) ≡ true
    at true s = ap (λ b. begins_with_digit (cond b (digit_glyph false (n % 10) ∷ []) (digits_onto k 10 false (n / 10) (digit_glyph false (n % 10) ∷ [])))) s ∙ step_passes is_digit digit_is n
    at false s = ap (λ b. begins_with_digit (cond b (digit_glyph false (n % 10) ∷ []) (digits_onto k 10 false (n / 10) (digit_glyph false (n % 10) ∷ [])))) s ∙ onto_begins k (n / 10) (digit_glyph false (n % 10) ∷ []) (step_passes is_digit digit_is n)

pub begins_with_its_digit : (n : ℕ) → begins_with_digit (decimal n) ≡ true
unfolding digits
begins_with_its_digit n = begins_after_one 63 n

begins_on : (text rest : List ℕ) → begins_with_digit text ≡ true → begins_with_digit (text ++ rest) ≡ true
begins_on [] rest first = absurd (true≢false (sym first))
begins_on (c ∷ text) rest first = first

-- a word that begins with a digit begins no text that doesn't
pub no_digit_first : (word text : List ℕ) → begins_with_digit word ≡ true → begins_with_digit text ≡ false → after word text ≡ None
no_digit_first [] text first other = absurd (true≢false (sym first))
no_digit_first (b ∷ word) [] first other = refl
no_digit_first (b ∷ word) (c ∷ text) first other =
    let ne : b ≢ c = λ same. true≢false (sym first ∙ (ap is_digit same ∙ other)) in
    ap (λ x. cond x (after word text) None) (ne_eqb b c ne)

dash_is_no_digit : (text : List ℕ) → begins_with_digit text ≡ true → after (codes "-") text ≡ None
dash_is_no_digit [] first = refl
dash_is_no_digit (c ∷ text) first =
    let range : (48 ≤ c) × (c ≤ 57) = digit_from c first in
    let ne : 45 ≢ c = omega arith in
    ap (λ x. cond x (Some text) None) (ne_eqb 45 c ne)

pub no_dash : (n : ℕ) (rest : List ℕ) → after (codes "-") (decimal n ++ rest) ≡ None
no_dash n rest = dash_is_no_digit (decimal n ++ rest) (begins_on (decimal n) rest (begins_with_its_digit n))
