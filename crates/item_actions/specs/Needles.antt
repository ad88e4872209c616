-- How a needle is kept: its bytes, and zeros after them.
use Rattle.std.specs.Prelude.{◌≡◌, ℕ, ◌-◌, ◌≤◌, List, ◌++◌, length, take, replicate}
use Rattle.item_actions.specs.declared.needles.Needle.TheInside.{Inside}
use Rattle.item_actions.specs.declared.limits.TheConstants.{MAX_NEEDLE_BYTES}

-- the bytes in an array that has room for the longest
abbrev pub padded : List ℕ → Inside
padded bytes = record { bytes = bytes ++ replicate (MAX_NEEDLE_BYTES - length bytes) 0; len = length bytes }

pub record IsPadded (n : Inside) : Type 0 where
  pub some : 1 ≤ n.len
  pub few : n.len ≤ MAX_NEEDLE_BYTES
  pub zeros : padded (take n.len n.bytes) ≡ n
