-- Calls that can fail, and how their faults are counted.
use Rattle.std.specs.Prelude.{◌≡◌, ℕ, ◌+◌, ◌-◌, ◌^◌, nat_lt, Result, Ok, Err, if◌then◌else◌}

-- One more, unless the count stands at its last value, 2 ^ 64 - 1: of a count that stands there nothing is claimed.
abbrev pub next : ℕ → ℕ
next count = if nat_lt count (2 ^ 64 - 1) then count + 1 else count

-- a call that failed is counted, and no other
abbrev pub IsCounted : {A E : Type 0} → ℕ → ℕ → Result A E → Type 0
IsCounted old new (Ok _) = new ≡ old
IsCounted old new (Err _) = new ≡ next old
