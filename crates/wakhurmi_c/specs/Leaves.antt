-- What a call leaves of its worker, by its answer.
use Rattle.std.specs.Prelude.{◌≡◌, ◌⊎◌, Bool, true, false}
use Rattle.lock_journal.specs.Names.{WorkerId, BookView, Kind}
use Rattle.coordination.specs.Names.{Finds, Cause, Making, HasFailed, HasFinished, HasLooked, WasStopped, seeing, KnowsNoStop}
use Rattle.coordination.specs.declared.rule.Sight.{Sight}
use Rattle.wakhurmi_c.specs.declared.answers.Answer.{Answer}
use Rattle.wakhurmi_c.specs.declared.answers.Answer.TheVariants.{Done, Busy, Refused, Stopped, Again, NoMemory, BadNumber, Misused}

-- The worker knew of no stop, the call found a book in which it couldn't be done, and nothing of the worker's has changed.
pub record WasKept (cause : Cause) (old new : Sight) : Type 0 where
  pub unheard : KnowsNoStop old
  pub book : BookView
  pub found : Finds old.worker old.seen book
  pub kept : cause book.graph old.worker book.state
  pub sight : new ≡ seeing old book

-- What a call leaves of a transform: where it fails, where it can't be done yet, and for which sights of its worker the call
-- refuses its numbers, or may not be made.
abbrev pub Leaves : Kind → Making → Cause → Cause → (Sight → Type 0) → (Sight → Type 0) → Sight → Sight → Answer → Type 0
Leaves kind makes fails waits refuses misuses old new Done = HasFinished kind makes old new
Leaves kind makes fails waits refuses misuses old new Refused = HasFailed kind fails old new
Leaves kind makes fails waits refuses misuses old new Busy = WasKept waits old new
Leaves kind makes fails waits refuses misuses old new Stopped = (by : WorkerId) × WasStopped waits by old new
Leaves kind makes fails waits refuses misuses old new Again = new ≡ old
Leaves kind makes fails waits refuses misuses old new NoMemory = HasLooked old new ⊎ (new ≡ old)
Leaves kind makes fails waits refuses misuses old new BadNumber = (new ≡ old) × refuses old
Leaves kind makes fails waits refuses misuses old new Misused = (new ≡ old) × misuses old
Leaves kind makes fails waits refuses misuses old new _ = ⊥

-- these answers come with an entry
abbrev pub is_entry : Answer → Bool
is_entry Done = true
is_entry Refused = true
is_entry _ = false
