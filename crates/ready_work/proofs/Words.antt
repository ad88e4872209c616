-- Bits of a list of words: one word replaced, and the lowest bit.
use Rattle.std.proofs.Common.{◌≡◌, ◌≢◌, ℕ, ◌+◌, ◌-◌, ◌*◌, ◌/◌, ◌%◌, ◌^◌, ◌<◌, ◌≤◌, List, length, get_or, set, w64, refl, sym, ◌∙◌, subst, ap, arith, ◌⊎◌, inl, inr}
use Rattle.std.specs.Int.{bit_at, trailing_zeros}
use Rattle.std.proofs.lemmas.Bool.{cases_eq, cases_lt}
use Rattle.std.proofs.lemmas.List.{get_or-set_same, get_or-set_other, get_or_past}
use Rattle.std.proofs.lemmas.Nat.{div-mul-add, mod-mul-add}
use Rattle.std.proofs.lemmas.Nat.Bits.{bit_at-lt, bit_at-trailing_zeros, bit_at-zero}
use Rattle.ready_work.specs.WordBits.{bit_in, HasBit, IsInWord}
use Rattle.ready_work.specs.Lowest.{IsFrom, IsLowest, IsNone}

word : List ℕ → ℕ → ℕ
word words i = get_or words i 0

-- one word was replaced, in which one bit was turned round
pub flip_same : (words : List ℕ) (n word new : ℕ) → n / 64 < length words → word ≡ get_or words (n / 64) 0 → bit_at new (n % 64) ≡ 1 - bit_at word (n % 64) → bit_in (set words (n / 64) new) n ≡ 1 - bit_in words n
unfolding bit_in
flip_same words n word new lt is flipped = ap (λ w. bit_at w (n % 64)) (get_or-set_same words (n / 64) new 0 lt) ∙ flipped ∙ ap (λ w. 1 - bit_at w (n % 64)) is

pub flip_other : (words : List ℕ) (n word new : ℕ) → n / 64 < length words → word ≡ get_or words (n / 64) 0 → ((i : ℕ) → i < 64 → i ≢ n % 64 → bit_at new i ≡ bit_at word i) → (k : ℕ) → k ≢ n → bit_in (set words (n / 64) new) k ≡ bit_in words k
unfolding bit_in
flip_other words n word new lt is same k ne = at (cases_eq (k / 64) (n / 64))
  where
    at : (k / 64 ≡ n / 64) ⊎ (k / 64 ≡ n / 64 → ⊥) → bit_at (get_or (set words (n / 64) new) (k / 64) 0) (k % 64) ≡ bit_at (get_or words (k / 64) 0) (k % 64)
    at (inl e) =
        let apart : k % 64 ≢ n % 64 = λ r. ne (omega arith) in
        ap (λ i. bit_at (get_or (set words (n / 64) new) i 0) (k % 64)) e
        ∙ ap (λ w. bit_at w (k % 64)) (get_or-set_same words (n / 64) new 0 lt)
        ∙ same (k % 64) (omega arith) apart
        ∙ ap (λ w. bit_at w (k % 64)) is
        ∙ ap (λ i. bit_at (get_or words i 0) (k % 64)) (sym e)
    at (inr apart) = ap (λ w. bit_at w (k % 64)) (get_or-set_other words (n / 64) (k / 64) new 0 apart)

pub bit_below_2 : (words : List ℕ) (k : ℕ) → bit_in words k < 2
unfolding bit_in
bit_below_2 words k = bit_at-lt (get_or words (k / 64) 0) (k % 64)

-- a word that is 0 has no bit
pub bit_of_zero : (words : List ℕ) (k : ℕ) → get_or words (k / 64) 0 ≡ 0 → bit_in words k ≡ 0
unfolding bit_in
bit_of_zero words k zero = ap (λ w. bit_at w (k % 64)) zero ∙ bit_at-zero (k % 64)

pub none_in : (words : List ℕ) (k : ℕ) → get_or words (k / 64) 0 ≡ 0 → HasBit words k → ⊥
none_in words k zero has = absurd (omega (arith, has, bit_of_zero words k zero))

pub in_range : (words : List ℕ) (k : ℕ) → length words ≤ k / 64 → HasBit words k → ⊥
in_range words k past has = none_in words k (get_or_past words (k / 64) 0 past) has

-- the place of the lowest bit of a word
record IsLowestOf (w j : ℕ) : Type 0 where
  within : j < 64
  is : bit_at w j ≡ 1
  least : (k : ℕ) → k < j → bit_at w k ≡ 0

lowest_of : (w : ℕ) → 0 < w → w < 2 ^ 64 → IsLowestOf w (trailing_zeros w64 w)
lowest_of w some fits = let b = bit_at-trailing_zeros w64 w some fits in record { within = b.0; is = b.1; least = b.2 }

-- a bit by its word and its place there
pub bit_at_place : (words : List ℕ) (i j : ℕ) → j < 64 → bit_in words (i * 64 + j) ≡ bit_at (get_or words i 0) j
unfolding bit_in
bit_at_place words i j lt = rw (div-mul-add i 64 j lt, mod-mul-add i 64 j lt) refl

-- a word without its bits below a place
pub record IsRestOf (word place rest : ℕ) : Type 0 where
  pub below : (i : ℕ) → i < place → bit_at rest i ≡ 0
  pub from : (i : ℕ) → i < 64 → place ≤ i → bit_at rest i ≡ bit_at word i

-- the lowest bit of the rest of a word is the next of all words
pub next_bit : (words : List ℕ) (place j rest : ℕ) → j < 64 → IsRestOf (get_or words place 0) j rest → 0 < rest → rest < 2 ^ 64 → IsLowest (IsFrom (place * 64 + j) (HasBit words)) (place * 64 + trailing_zeros w64 rest)
unfolding bit_in
next_bit words place j rest inside parts some fits = record {
  is = record { past = past (cases_lt (trailing_zeros w64 rest) j); such = bit_at_place words place (trailing_zeros w64 rest) first.within ∙ such (cases_lt (trailing_zeros w64 rest) j) };
  least = below;
}
  where
    first : IsLowestOf rest (trailing_zeros w64 rest)
    first = lowest_of rest some fits

    high : trailing_zeros w64 rest < j → ⊥
    high lt = absurd (omega (arith, first.is, parts.below (trailing_zeros w64 rest) lt))

    past : (trailing_zeros w64 rest < j) ⊎ (j ≤ trailing_zeros w64 rest) → place * 64 + j ≤ place * 64 + trailing_zeros w64 rest
    past (inl lt) = absurd (high lt)
    past (inr le) = omega arith

    such : (trailing_zeros w64 rest < j) ⊎ (j ≤ trailing_zeros w64 rest) → bit_at (get_or words place 0) (trailing_zeros w64 rest) ≡ 1
    such (inl lt) = absurd (high lt)
    such (inr le) = sym (parts.from (trailing_zeros w64 rest) first.within le) ∙ first.is

    below : (k : ℕ) → k < place * 64 + trailing_zeros w64 rest → IsFrom (place * 64 + j) (HasBit words) k → ⊥
    below k lt is =
        let within = first.within in
        let past = is.past in
        let here : k / 64 ≡ place = omega arith in
        let low : k % 64 < trailing_zeros w64 rest = omega arith in
        let le : j ≤ k % 64 = omega arith in
        let in_word : k % 64 < 64 = omega arith in
        absurd (omega (arith, is.such, ap (λ n. bit_at (get_or words n 0) (k % 64)) here, first.least (k % 64) low, parts.from (k % 64) in_word le))

-- a word is all of itself
all_of_word : (word : ℕ) → IsRestOf word 0 word
all_of_word word = record { below = λ i lt. absurd (omega arith); from = λ i within le. refl }

-- the lowest bit of a word that isn't 0
pub lowest_of_word : (words : List ℕ) (i : ℕ) → 0 < get_or words i 0 → get_or words i 0 < 2 ^ 64 → IsLowest (IsFrom (i * 64) (HasBit words)) (i * 64 + trailing_zeros w64 (get_or words i 0))
lowest_of_word words i some fits =
    let at_0 : i * 64 + 0 ≡ i * 64 = omega arith in
    subst (λ start. IsLowest (IsFrom start (HasBit words)) (i * 64 + trailing_zeros w64 (get_or words i 0))) at_0
    (next_bit words i 0 (get_or words i 0) (omega arith) (all_of_word (get_or words i 0)) some fits)

pub within_words : (words : List ℕ) (i : ℕ) → 0 < get_or words i 0 → i < length words
within_words words i some = at (cases_lt i (length words))
  where
    at : (i < length words) ⊎ (length words ≤ i) → i < length words
    at (inl lt) = lt
    at (inr past) = absurd (omega (arith, some, get_or_past words i 0 past))

-- where the rest of a word is 0 it has no more bit
pub none_from : (words : List ℕ) (from rest : ℕ) → IsRestOf (get_or words (from / 64) 0) (from % 64) rest → rest ≡ 0 → IsNone (IsFrom from (IsInWord words (from / 64)))
unfolding bit_in
none_from words from rest parts zero = record {
  none = λ k is.
      let past = is.past in
      let place = is.such.place in
      let le : from % 64 ≤ k % 64 = omega arith in
      let in_word : k % 64 < 64 = omega arith in
      absurd (omega (arith, is.such.bit, ap (λ n. bit_at (get_or words n 0) (k % 64)) place, parts.from (k % 64) in_word le, ap (λ w. bit_at w (k % 64)) zero, bit_at-zero (k % 64)));
}

-- words past the end have no bit
pub none_past : (words : List ℕ) (from : ℕ) → length words ≤ from / 64 → IsNone (IsFrom from (IsInWord words (from / 64)))
none_past words from past = record { none = λ k is. let place = is.such.place in in_range words k (omega arith) is.such.bit }

-- ---- one word after another

-- no bit from a number on in the words before a place
abbrev pub NoneBefore : List ℕ → ℕ → ℕ → Type 0
NoneBefore words from place = (k : ℕ) → k / 64 < place → IsFrom from (HasBit words) k → ⊥

pub none_in_first : (words : List ℕ) (from : ℕ) → IsNone (IsFrom from (IsInWord words (from / 64))) → NoneBefore words from (from / 64 + 1)
none_in_first words from none k lt is =
    let past = is.past in
    none.none k (record { past = past; such = record { place = omega arith; bit = is.such } })

pub none_in_next : (words : List ℕ) (from place : ℕ) → NoneBefore words from place → IsNone (IsFrom (place * 64) (IsInWord words (place * 64 / 64))) → NoneBefore words from (place + 1)
none_in_next words from place before none k lt is = at (cases_lt (k / 64) place)
  where
    at : (k / 64 < place) ⊎ (place ≤ k / 64) → ⊥
    at (inl low) = before k low is
    at (inr high) = none.none k (record { past = omega arith; such = record { place = omega arith; bit = is.such } })

pub none_in_all : (words : List ℕ) (from place : ℕ) → length words ≤ place → NoneBefore words from place → IsNone (IsFrom from (HasBit words))
none_in_all words from place all before = record { none = λ k is. at k is (cases_lt (k / 64) place) }
  where
    at : (k : ℕ) → IsFrom from (HasBit words) k → (k / 64 < place) ⊎ (place ≤ k / 64) → ⊥
    at k is (inl low) = before k low is
    at k is (inr high) = in_range words k (omega arith) is.such

pub lowest_in_next : (words : List ℕ) (from place n : ℕ) → from / 64 < place → NoneBefore words from place → IsLowest (IsFrom (place * 64) (HasBit words)) n → IsLowest (IsFrom from (HasBit words)) n
lowest_in_next words from place n later before low = record {
  is = let past = low.is.past in record { past = omega arith; such = low.is.such };
  least = λ k lt is. at k lt is (cases_lt (k / 64) place);
}
  where
    at : (k : ℕ) → k < n → IsFrom from (HasBit words) k → (k / 64 < place) ⊎ (place ≤ k / 64) → ⊥
    at k lt is (inl early) = before k early is
    at k lt is (inr late) = low.least k lt (record { past = omega arith; such = is.such })
