-- What a worker did first, and what came after it in the same hold of the state lock, or later where that had to be waited for.
use Rattle.std.specs.Prelude.{◌≡◌, ◌⊎◌, ℕ, Option}
use Rattle.lock_journal.specs.Names.{WorkerId, BookView, IsFixedList, Kind}
use Rattle.lock_transforms.specs.declared.entries.Kind.TheVariants as kinds
use Rattle.coordination.specs.Names.{Cause, Making, HasFinished, HasDecided, decided_of}
use Rattle.coordination.specs.declared.decisions.Decided.{Decided}
use Rattle.coordination.specs.declared.rule.Sight.{Sight}
use Rattle.async_tracker.specs.Tasks.{ShowsEnded}

-- The book is the very one that the pass had seen, with no entry in between, or what was to be done had to wait there.
abbrev pub IsAtOnceUnless : (WorkerId → BookView → Type 0) → Sight → BookView → Type 0
IsAtOnceUnless waits old book = (book ≡ old.seen) ⊎ waits old.worker old.seen

-- The worker ended the task, and this is so of what its pass had seen then.
pub record HasEndedThen (t : ℕ) (old : Sight) (after : Sight → Type 0) : Type 0 where
  pub between : Sight
  pub ended : HasFinished (kinds.End t) (IsFixedList (kinds.End t)) old between
  pub shows : ShowsEnded t old between
  pub then : after between

-- It was decided at once, unless the decision had to wait.
pub record HasDecidedAfter {A X : Type 0} (answers : WorkerId → BookView → A → Type 0) (waits : WorkerId → BookView → Type 0) (step_of : A → Option X)
    (kind_of : X → Kind) (makes : X → Making) (fails retries : X → Cause) (old new : Sight) (d : Decided A) : Type 0 where
  pub decided : HasDecided answers step_of kind_of makes fails retries old new d
  pub at_once : IsAtOnceUnless waits old (decided_of answers step_of kind_of makes fails retries old new d decided)

-- The worker parked, on the very book that the pass had seen.
pub record HasParkedAtOnce (a : ℕ) (old new : Sight) : Type 0 where
  pub parked : HasFinished (kinds.Park a) (IsFixedList (kinds.Park a)) old new
  pub at_once : parked.before ≡ old.seen
