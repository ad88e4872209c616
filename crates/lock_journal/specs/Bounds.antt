-- What the type of an outcome holds: a number of 64 bits, or 32 bytes.
use Rattle.std.specs.Prelude.{◌≡◌, ◌<◌, ◌^◌, length, All, Some}
use Rattle.item_actions.specs.declared.outcomes.Outcome.{Outcome}
use Rattle.item_actions.specs.declared.outcomes.Outcome.TheVariants as outcomes
use Rattle.lock_transforms.specs.declared.entries.Kind.{Kind}
use Rattle.lock_transforms.specs.declared.entries.Kind.TheVariants.{Close, Unblock}

abbrev pub IsFitOutcome : Outcome → Type 0
IsFitOutcome (outcomes.Number n) = n < 2 ^ 64
IsFitOutcome (outcomes.Digest bytes) = (length bytes ≡ 32) × All (λ b. b < 256) bytes
IsFitOutcome _ = Unit {0}

-- the outcome that a kind carries, where it carries one, is such
abbrev pub IsFitKind : Kind → Type 0
IsFitKind (Close c) = IsFitOutcome c.outcome
IsFitKind (Unblock (Some c)) = IsFitOutcome c.outcome
IsFitKind _ = Unit {0}
