-- Needles of one byte.
use Rattle.std.proofs.Common.{◌≡◌, ℕ, zero, suc, ◌+◌, ◌-◌, ◌<◌, ◌≤◌, Bool, true, false, cond, ◌&&◌, leb, eqb, List, [], ◌∷◌, length, take, drop, get_or, count_by, sym, ap, ◌∙◌, arith}
use Rattle.std.specs.Str.{bytes_eq}
use Rattle.std.proofs.Math.Bool.{and-true}
use Rattle.std.proofs.Math.Seq.{drop-cons}
use Rattle.std.proofs.lemmas.Bool.{le-leb}
use Rattle.std.proofs.lemmas.Bool.Decides.{nat_tests}
use Rattle.std.proofs.lemmas.List.{at_drop_all}
use Rattle.std.proofs.lemmas.List.Sums.{sum_by-cons}
use Rattle.memchr.specs.Find.{occurs_at, matches_from}
use Rattle.item_actions.specs.Bytes.{occurrences}

too_far : (bytes : List ℕ) (byte i : ℕ) → length bytes ≤ i → occurs_at bytes (byte ∷ []) i ≡ false
too_far bytes byte i far =
    let beyond : leb (i + 1) (length bytes) ≡ false = grind (arith, nat_tests) in
    ap (λ b. b && bytes_eq (take 1 (drop i bytes)) (byte ∷ [])) beyond

here : (bytes : List ℕ) (byte i : ℕ) → i < length bytes → occurs_at bytes (byte ∷ []) i ≡ eqb (get_or bytes i 0) byte
here bytes byte i within =
    let fits : leb (i + 1) (length bytes) ≡ true = le-leb _ _ (omega arith) in
    (λ j. fits j && bytes_eq (take 1 (drop-cons bytes i 0 within j)) (byte ∷ [])) ∙ and-true (eqb (get_or bytes i 0) byte)

one_more : (found : Bool) (i : ℕ) (later : List ℕ) → length (cond found (i ∷ later) later) ≡ cond found 1 0 + length later
one_more true i later = omega arith
one_more false i later = omega arith

from_place : (bytes : List ℕ) (byte i n : ℕ) → i + n ≡ length bytes + 1 → length (matches_from bytes (byte ∷ []) 0 i n) ≡ count_by (λ b. eqb b byte) (drop i bytes)
unfolding matches_from
from_place bytes byte i zero fit = sym (at_drop_all (count_by (λ b. eqb b byte)) bytes i (omega arith))
from_place bytes byte i (suc zero) fit =
    ap (λ found. length (cond found (i ∷ []) [])) (too_far bytes byte i (omega arith)) ∙ sym (at_drop_all (count_by (λ b. eqb b byte)) bytes i (omega arith))
from_place bytes byte i (suc (suc n)) fit =
    let later = matches_from bytes (byte ∷ []) 0 (i + 1) (suc n) in
    let within : i < length bytes = omega arith in
    let next : i + 1 ≡ suc i = omega arith in
    let rest : length later ≡ count_by (λ b. eqb b byte) (drop (suc i) bytes) = from_place bytes byte (i + 1) (suc n) (omega arith) ∙ ap (λ k. count_by (λ b. eqb b byte) (drop k bytes)) next in
    ap (λ found. length (cond found (i ∷ later) later)) (here bytes byte i within)
    ∙ one_more (eqb (get_or bytes i 0) byte) i later
    ∙ ap (λ n. cond (eqb (get_or bytes i 0) byte) 1 0 + n) rest
    ∙ sym (ap (count_by (λ b. eqb b byte)) (drop-cons bytes i 0 within) ∙ sum_by-cons (λ b. cond (eqb b byte) 1 0) (get_or bytes i 0) (drop (suc i) bytes))

-- a needle of one byte occurs where the byte does
pub occurrences-one : (needle bytes : List ℕ) → length needle ≡ 1 → count_by (λ b. eqb b (get_or needle 0 0)) bytes ≡ occurrences needle bytes
unfolding occurrences
occurrences-one [] bytes one = absurd (omega arith)
occurrences-one (byte ∷ []) bytes one = sym (from_place bytes byte 0 (length bytes + 1 - 0) (omega arith))
occurrences-one (byte ∷ next ∷ more) bytes one = absurd (omega arith)
