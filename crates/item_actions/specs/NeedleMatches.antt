-- Needles by pieces.
use Rattle.std.specs.Prelude.{◌≡◌, ℕ, ◌+◌, ◌≤◌, List, ◌++◌, length, drop}
use Rattle.item_actions.specs.Bytes.{occurrences}
use Rattle.item_actions.specs.declared.needle_state.NeedleState.{NeedleState}

-- whatever comes behind the bytes: so many needles are found in all, and those behind place `end` besides
pub record CountsOn (needle bytes : List ℕ) (found end : ℕ) : Type 0 where
  pub within : end ≤ length bytes
  pub counted : (rest : List ℕ) → occurrences needle (bytes ++ rest) ≡ found + occurrences needle (drop end bytes ++ rest)

-- the state of the needles of the bytes: whatever comes behind them, these are found, and those that begin in the tail or behind it
pub record HasNeedles (state : NeedleState) (needle bytes : List ℕ) : Type 0 where
  pub same : state.needle ≡ needle
  pub counted : (rest : List ℕ) → occurrences needle (bytes ++ rest) ≡ state.found + occurrences needle (state.tail ++ rest)
