-- A set of numbers, as contracts see it.
use Rattle.std.specs.Prelude.{ℕ, ◌≡◌, Bool, true, false, List, length, map, slice_index_or}
use Rattle.std.specs.List.{range_with_len}

-- for each number that has room, whether it is a member
pub record NumberSetView : Type 0 where
  pub members : List Bool

abbrev pub has : NumberSetView → ℕ → Bool
has set k = slice_index_or set.members k false

abbrev pub IsMember : NumberSetView → ℕ → Type 0
IsMember set k = has set k ≡ true

-- the numbers below this one have room
abbrev pub room_of : NumberSetView → ℕ
room_of set = length set.members

-- with room below n, the numbers that pass
unfoldable pub set_where : (ℕ → Bool) → ℕ → NumberSetView
set_where passes n = record { members = map passes (range_with_len 0 n) }
