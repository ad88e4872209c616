-- Bits of a list of words of 64 bits, numbered through all words.
use Rattle.std.specs.Prelude.{ℕ, ◌≡◌, ◌*◌, ◌/◌, ◌%◌, ◌^◌, ◌<◌, ◌≤◌, List, length, slice_index_or}
use Rattle.std.specs.Int.{bit_at}

-- the bit of this number, 0 or 1
unfoldable pub bit_in : List ℕ → ℕ → ℕ
bit_in words k = bit_at (slice_index_or words (k / 64) 0) (k % 64)

abbrev pub HasBit : List ℕ → ℕ → Type 0
HasBit words k = bit_in words k ≡ 1

-- a bit that is set in the word of this number
pub record IsInWord (words : List ℕ) (number k : ℕ) : Type 0 where
  pub place : k / 64 ≡ number
  pub bit : HasBit words k

-- The summary has the bits of exactly the words that aren't 0, and all numbers fit 32 bits.
pub record Summarizes (words summary : List ℕ) : Type 0 where
  pub few : length words ≤ 2 ^ 26
  pub few_summaries : length summary ≤ 2 ^ 26
  pub size : length words ≤ 64 * length summary
  pub filled : (i : ℕ) → HasBit summary i → 0 < slice_index_or words i 0
  pub noted : (i : ℕ) → 0 < slice_index_or words i 0 → HasBit summary i
