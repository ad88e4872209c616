-- Texts of digits.
use Rattle.std.proofs.Common.{◌≡◌, ℕ, ◌<◌, ◌^◌, true, List, length, Bool, if◌then◌else◌, Result, Ok, Err, Some, None, sym, ap, ◌∙◌, inl, inr, rules}
use Rattle.std.specs.Prelude.{nat_lt, OkIff}
use Rattle.std.specs.List.{list_all}
use Rattle.std.specs.Char.{is_ascii_digit}
use Rattle.std.specs.Result.{result_ok}
use Rattle.std.specs.Str.Parse.{digits_value, ParsesUnsigned}
use Rattle.std.proofs.lemmas.Bool.{and_parts, cases_Bool, leb-true, lt-ltb, ltb-true}
use Rattle.std.proofs.lemmas.Str.Parse.{IsNumeralModel, numerals_by_value, parse_digits}
use Rattle.command_words.specs.Numbers.{in_64_bits, is_numeral, value_of}

own : IsNumeralModel (λ ds. list_all is_ascii_digit ds ≡ true) (digits_value 10)
own = numerals_by_value _ (search rules)

in_64_bits-read : {E : Type 0} (n : ℕ) (P : Type 0) (r : Result ℕ E) → P → OkIff r (P × (n < 2 ^ 64)) n → result_ok r ≡ in_64_bits n
in_64_bits-read n P (Ok x) holds h = ap Some h.1 ∙ sym (ap (λ (b : Bool). if b then Some n else None) (lt-ltb n (2 ^ 64) h.0.1))
in_64_bits-read n P (Err e) holds h = elim (cases_Bool (nat_lt n (2 ^ 64))) [
  | inl less ↦ absurd (h (holds, ltb-true n (2 ^ 64) less))
  | inr not_less ↦ sym (ap (λ (b : Bool). if b then Some n else None) not_less)
]

-- what reading a numeral gives
pub numeral_read : {E : Type 0} (most : ℕ) (t : List ℕ) (r : Result ℕ E) → ParsesUnsigned 64 10 t r → is_numeral most t ≡ true → result_ok r ≡ value_of most t
numeral_read most t r h is =
    let (long, digits) = and_parts _ _ is in
    let low = (and_parts _ _ long).0 in
    in_64_bits-read (digits_value 10 t) (0 < length t) r (leb-true 1 (length t) low) (parse_digits own 64 t r h digits)
    ∙ sym (ap (λ (b : Bool). if b then in_64_bits (digits_value 10 t) else None) is)
