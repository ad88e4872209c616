-- How many digits the text of a number has, and digits that were written behind what stood before.
use Rattle.std.proofs.Common.{◌≡◌, ℕ, ◌+◌, ◌/◌, ◌<◌, ◌≤◌, List, ◌++◌, length, take, drop, decimal, sym, ap, ◌∙◌, arith}
use Rattle.std.proofs.Math.Seq.{take-add, take-append_seam}
use Rattle.itoa.proofs.Decimal.{length_one, length_two, length_pair}

pub one_digit : (n : ℕ) → n < 10 → length (decimal n) ≡ 1
one_digit n below = length_one n below

pub two_digits : (n : ℕ) → 10 ≤ n → n < 100 → length (decimal n) ≡ 2
two_digits n from below = length_two n from below

pub three_digits : (n : ℕ) → 100 ≤ n → n < 1000 → length (decimal n) ≡ 3
three_digits n from below = omega (arith, length_pair n from (omega arith), length_one (n / 100) (omega arith))

pub four_digits : (n : ℕ) → 1000 ≤ n → n < 10000 → length (decimal n) ≡ 4
four_digits n from below = omega (arith, length_pair n (omega arith) (omega arith), length_two (n / 100) (omega arith) (omega arith))

pub ruleset short_numbers = (one_digit, two_digits, three_digits, four_digits)

pub written_behind : (old new digits rest : List ℕ) (start end : ℕ) → start + length digits ≡ end → drop start new ≡ digits ++ rest → take start new ≡ take start old → take end new ≡ take start old ++ digits
written_behind old new digits rest start end ends written before =
    ap (λ k. take k new) (sym ends)
    ∙ (take-add start (length digits) new
    ∙ (ap (λ l. l ++ take (length digits) (drop start new)) before
    ∙ ap (λ l. take start old ++ l) (ap (take (length digits)) written ∙ take-append_seam digits rest)))
