-- The runs of bytes without a line end, by pieces.
use Rattle.std.specs.Prelude.{◌≡◌, ℕ, ◌+◌, ◌==◌, List, [], ◌∷◌, max, if◌then◌else◌}
use Rattle.item_actions.specs.declared.run_state.RunState.{RunState}

-- the greatest length of a run, where `before` bytes of the first run stand before the bytes
unfoldable pub longest_after : ℕ → List ℕ → ℕ
longest_after before [] = before
longest_after before (b ∷ bytes) = if b == 10 then max before (longest_after 0 bytes) else longest_after (before + 1) bytes

-- the length of the last run, where `before` bytes of the first run stand before the bytes
unfoldable pub last_run : ℕ → List ℕ → ℕ
last_run before [] = before
last_run before (b ∷ bytes) = if b == 10 then last_run 0 bytes else last_run (before + 1) bytes

-- the state of the runs of the bytes
pub record HasRuns (state : RunState) (bytes : List ℕ) : Type 0 where
  pub longest : state.longest ≡ longest_after 0 bytes
  pub last : state.last ≡ last_run 0 bytes
