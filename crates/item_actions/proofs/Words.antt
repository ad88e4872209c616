-- Words by pieces are the words of the whole.
use Rattle.std.proofs.Common.{◌≡◌, ℕ, zero, suc, ◌+◌, ◌-◌, ◌<◌, ◌≤◌, ◌^◌, ◌++◌, List, [], ◌∷◌, Bool, true, false, cond, not, ◌&&◌, ◌||◌, eqb, min, length, get_or, count_by, drop, refl, sym, ap, ◌∙◌, arith, length-append}
use Rattle.std.specs.List.{range_with_len}
use Rattle.std.proofs.lemmas.Bool.Decides.{nat_tests}
use Rattle.std.proofs.lemmas.List.{at_drop_all, at_drop_more}
use Rattle.std.proofs.lemmas.List.Sums.{sum_by-cons}
use Rattle.item_actions.specs.Bytes.{is_space, follows_space, begins_word, word_count}
use Rattle.item_actions.specs.WordPieces.{words_after, can_begin, starts_word, HasWords}

from_place : (bytes : List ℕ) (n k : ℕ) → k + n ≡ length bytes → count_by (begins_word bytes) (range_with_len k n) ≡ words_after (follows_space bytes k) (drop k bytes)
unfolding words_after
from_place bytes zero k fit = sym (at_drop_all (words_after (follows_space bytes k)) bytes k (omega arith))
from_place bytes (suc n) k fit =
    let next : eqb (k + 1) 0 ≡ false = grind (arith, nat_tests) in
    let place : k + 1 - 1 ≡ k = omega arith in
    let follows : follows_space bytes (k + 1) ≡ is_space (get_or bytes k 0) = (λ i. next i || is_space (get_or bytes (place i) 0)) in
    sum_by-cons (λ x. cond (begins_word bytes x) 1 0) k (range_with_len (k + 1) n)
    ∙ ap (λ m. cond (begins_word bytes k) 1 0 + m) (from_place bytes n (k + 1) (omega arith) ∙ ap (λ can. words_after can (drop (k + 1) bytes)) follows)
    ∙ sym (at_drop_more (words_after (follows_space bytes k)) bytes k 0 (omega arith))

pub whole_words : (bytes : List ℕ) → word_count bytes ≡ words_after true bytes
unfolding word_count
whole_words bytes = from_place bytes (length bytes) 0 (omega arith)

words_append : (can : Bool) (xs ys : List ℕ) → words_after can (xs ++ ys) ≡ words_after can xs + words_after (can_begin can xs) ys
unfolding words_after can_begin
words_append can [] ys = omega arith
words_append can (x ∷ xs) ys = omega (arith, words_append (is_space x) xs ys)

can_append : (can : Bool) (xs ys : List ℕ) → can_begin can (xs ++ ys) ≡ can_begin (can_begin can xs) ys
unfolding can_begin
can_append can [] ys = refl
can_append can (x ∷ xs) ys = can_append (is_space x) xs ys

one_at_most : (b : Bool) → ◌≤◌ (cond b 1 0) 1
one_at_most true = omega arith
one_at_most false = omega arith

words_few : (can : Bool) (xs : List ℕ) → words_after can xs ≤ length xs
unfolding words_after
words_few can [] = omega arith
words_few can (x ∷ xs) = omega (arith, words_few (is_space x) xs, one_at_most (not (is_space x) && can))

-- the last byte tells whether the next one can begin a word
pub last_tells : (can : Bool) (xs : List ℕ) → 0 < length xs → can_begin can xs ≡ is_space (get_or xs (length xs - 1) 0)
unfolding can_begin
last_tells can [] some = absurd (omega arith)
last_tells can (x ∷ []) some = refl
last_tells can (x ∷ y ∷ xs) some =
    let place : length (x ∷ y ∷ xs) - 1 ≡ suc (length (y ∷ xs) - 1) = omega arith in
    last_tells (is_space x) (y ∷ xs) (omega arith) ∙ sym (ap (λ k. is_space (get_or (x ∷ y ∷ xs) k 0)) place)

pub none_tell : (can : Bool) (xs : List ℕ) → length xs ≡ 0 → can ≡ can_begin can xs
unfolding can_begin
none_tell can [] none = refl
none_tell can (x ∷ xs) none = absurd (omega arith)

one_less : (space : Bool) → cond (not space && true) 1 0 ≡ cond (not space && false) 1 0 + cond (not space) 1 0
one_less true = refl
one_less false = refl

-- where the first byte goes on with a word, one word less begins
pub goes_on : (xs : List ℕ) → words_after true xs ≡ words_after false xs + cond (starts_word xs) 1 0
unfolding words_after
goes_on [] = refl
goes_on (x ∷ xs) = omega (arith, one_less (is_space x))

-- the state after one piece more
pub words_added : (begun : ℕ) (can : Bool) (bytes piece : List ℕ) (more sum : ℕ) (new : Bool) → length bytes + length piece < 2 ^ 64
    → more ≡ words_after can piece → sum ≡ min (begun + more) (2 ^ 64 - 1) → new ≡ can_begin can piece
    → HasWords record { begun = begun; can_begin = can } bytes → HasWords record { begun = sum; can_begin = new } (bytes ++ piece)
words_added begun can bytes piece more sum new fits counted summed last h =
    let parts = words_append true bytes piece in
    let state : words_after (can_begin true bytes) piece ≡ words_after can piece = ap (λ b. words_after b piece) (sym h.can) in
    let few = words_few true (bytes ++ piece) in
    record {
      begun = omega (arith, parts, state, few, h.begun, length-append bytes piece);
      can = last ∙ ap (λ b. can_begin b piece) h.can ∙ sym (can_append true bytes piece);
    }

-- a first byte that goes on with a word begins one less
pub one_less_begun : (words : ℕ) (can : Bool) (xs : List ℕ) → words ≡ word_count xs → can ≡ false → true ≡ starts_word xs → words ≡ words_after can xs + 1
one_less_begun words can xs is cannot starts =
    let state = ap (λ b. words_after b xs) cannot in
    let one : ◌≡◌ {A = ℕ} (cond true 1 0) (cond (starts_word xs) 1 0) = ap (λ b. cond b 1 0) starts in
    omega (arith, is, whole_words xs, goes_on xs, state, one)

pub same_begun : (words : ℕ) (can : Bool) (xs : List ℕ) → words ≡ word_count xs → can ≡ false → false ≡ starts_word xs → words ≡ words_after can xs
same_begun words can xs is cannot starts =
    let state = ap (λ b. words_after b xs) cannot in
    let none : ◌≡◌ {A = ℕ} (cond false 1 0) (cond (starts_word xs) 1 0) = ap (λ b. cond b 1 0) starts in
    omega (arith, is, whole_words xs, goes_on xs, state, none)

pub all_begun : (words : ℕ) (can : Bool) (xs : List ℕ) → words ≡ word_count xs → can ≡ true → words ≡ words_after can xs
all_begun words can xs is can_is = is ∙ whole_words xs ∙ ap (λ b. words_after b xs) (sym can_is)
