-- What an item adds to its worker's tally.
use Rattle.std.specs.Prelude.{◌≡◌, ◌+◌, ◌≤◌, ℕ, Result, Ok, Err}
use Rattle.item_actions.specs.declared.outcomes.Outcome.{Outcome}
use Rattle.item_actions.specs.declared.outcomes.Outcome.TheVariants.{Number, Digest, NotThere, TooLong, Fault, NoMemory, Skipped}
use Rattle.daemon_requirements.specs.declared.work.Isolation.{Isolation}
use Rattle.daemon_requirements.specs.declared.work.Isolation.TheVariants.{InThread, Process}
use Rattle.daemon_manager.specs.Counts.{TallyView}

-- 1 for an item that wasn't worked out
abbrev pub one_if_unreal : Outcome → ℕ
one_if_unreal (Number n) = 0
one_if_unreal (Digest bytes) = 0
one_if_unreal NotThere = 0
one_if_unreal TooLong = 0
one_if_unreal Fault = 1
one_if_unreal NoMemory = 1
one_if_unreal Skipped = 0

-- 1 for a request that got no reply
abbrev pub one_if_err : {A E : Type 0} → Result A E → ℕ
one_if_err (Ok _) = 0
one_if_err (Err _) = 1

-- While a worker's desk sent requests, whose count went from one number to another, the worker reserved a daemon for each at least.
abbrev pub ReservesForEach : ℕ → ℕ → TallyView → TallyView → Type 0
ReservesForEach sends_before sends_after old new = sends_after + old.reserved ≤ sends_before + new.reserved

-- For one item: one daemon at most was reserved, and no more failed than this.
pub record TallyRises (old new : TallyView) (sends_before sends_after most_failed : ℕ) : Type 0 where
  pub for_each : ReservesForEach sends_before sends_after old new
  pub one : new.reserved ≤ old.reserved + 1
  pub failed : new.failed ≤ old.failed + most_failed

-- nothing for an item in the worker's own thread, and for one in a process what its daemon adds
abbrev pub TalliesFor : Isolation → TallyView → TallyView → ℕ → ℕ → Outcome → Type 0
TalliesFor InThread old new sends_before sends_after outcome = new ≡ old
TalliesFor (Process asked) old new sends_before sends_after outcome = TallyRises old new sends_before sends_after (one_if_unreal outcome)
