-- Words, lines and needles in a list of bytes.
use Rattle.std.specs.Prelude.{◌≢◌, ℕ, zero, suc, ◌+◌, ◌-◌, ◌<◌, Bool, true, ◌||◌, ◌&&◌, not, ◌==◌, nat_le, List, []}
use Rattle.std.specs.Prelude.{◌∷◌, length, max, slice_index, count_by}
use Rattle.std.specs.List.{range_with_len, prefix_len}
use Rattle.memchr.specs.Find.{matches}

-- 0x20, and 0x09 to 0x0D
abbrev pub is_space : ℕ → Bool
is_space b = b == 32 || (nat_le 9 b && nat_le b 13)

-- the place is the first, or follows a space byte
abbrev pub follows_space : List ℕ → ℕ → Bool
follows_space bytes k = k == 0 || is_space (slice_index bytes (k - 1))

-- the place holds no space byte, and is the first or follows one
abbrev pub begins_word : List ℕ → ℕ → Bool
begins_word bytes k = not (is_space (slice_index bytes k)) && follows_space bytes k

-- how many places begin a word
unfoldable pub word_count : List ℕ → ℕ
word_count bytes = count_by (begins_word bytes) (range_with_len 0 (length bytes))

-- how many bytes stand before the first line end
abbrev pub run : List ℕ → ℕ
run bytes = prefix_len (λ b. not (b == 10)) bytes

-- the greatest number of bytes without a line end that stand one after the other
unfoldable pub longest : List ℕ → ℕ
longest [] = 0
longest (b ∷ bytes) = max (run (b ∷ bytes)) (longest bytes)

-- how often the needle is found from the left, none overlapping an earlier one
unfoldable pub occurrences : List ℕ → List ℕ → ℕ
occurrences needle bytes = length (matches bytes needle 0)

-- the first n bytes of the needle stand from place p on
abbrev pub agrees : List ℕ → List ℕ → ℕ → ℕ → Bool
agrees bytes needle zero p = true
agrees bytes needle (suc n) p = agrees bytes needle n p && slice_index bytes (p + n) == slice_index needle n

-- the first byte of the needle stands at no later place of it, so that no two of its occurrences overlap
abbrev pub FirstIsAlone : List ℕ → Type 0
FirstIsAlone needle = (k : ℕ) → 0 < k → k < length needle → slice_index needle k ≢ slice_index needle 0
