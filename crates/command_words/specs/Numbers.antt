-- Numbers in words.
use Rattle.std.specs.Prelude.{ℕ, ◌^◌, Bool, ◌&&◌, if◌then◌else◌, nat_le, nat_lt, List, length, Option, Some, None, option_and_then}
use Rattle.std.specs.List.{list_all}
use Rattle.std.specs.Char.{is_ascii_digit}
use Rattle.std.specs.Str.Parse.{digits_value}
use Rattle.command_words.specs.declared.numbers.TheConstants.{MAX_COUNT, MAX_COUNT_DIGITS, MAX_SEED_DIGITS}

-- digits, at least one and at most so many
abbrev pub is_numeral : ℕ → List ℕ → Bool
is_numeral most t = (nat_le 1 (length t) && nat_le (length t) most) && list_all is_ascii_digit t

-- a number, if it has at most 64 bits
abbrev pub in_64_bits : ℕ → Option ℕ
in_64_bits n = if nat_lt n (2 ^ 64) then Some n else None

-- the number that a text writes with at most so many digits
abbrev pub value_of : ℕ → List ℕ → Option ℕ
value_of most t = if is_numeral most t then in_64_bits (digits_value 10 t) else None

-- a number of threads or of leases
abbrev pub in_bounds : ℕ → Option ℕ
in_bounds n = if nat_le 1 n && nat_le n MAX_COUNT then Some n else None

-- the number of threads or of leases that a text writes
abbrev pub parsed_count : List ℕ → Option ℕ
parsed_count t = option_and_then in_bounds (value_of MAX_COUNT_DIGITS t)

-- the number that a plan is made from
abbrev pub seed_of : List ℕ → Option ℕ
seed_of t = value_of MAX_SEED_DIGITS t
