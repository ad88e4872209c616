-- What a worker does next.
use Rattle.std.specs.Prelude.{ℕ, ◌≡◌, Bool, true, false, All}
use Rattle.lock_journal.specs.Names.{GraphView, StateView, WorkerId, IsEnded}
use Rattle.ready_work.specs.Choices.{CanSkip}
use Rattle.ready_work.specs.Lowest.{IsLowest, IsNone}
use Rattle.worker_choices.specs.NextSteps.{CanBegin, CanGoOn, can_claim}
use Rattle.worker_choices.specs.declared.choices.Choice.{Choice}
use Rattle.worker_choices.specs.declared.choices.Choice.TheVariants as idle
use Rattle.worker_choices.specs.declared.choices.ParkedChoice.{ParkedChoice}
use Rattle.worker_choices.specs.declared.choices.ParkedChoice.TheVariants as parked

-- What an idle worker does: the first of claiming an item, skipping the lowest task, starting the lowest task, and finishing
-- where all tasks have ended.
abbrev pub IsNext : GraphView → WorkerId → StateView → Bool → Choice → Type 0
IsNext g w s queued idle.Claim = can_claim w s queued ≡ true
IsNext g w s queued (idle.Skip t) = (can_claim w s queued ≡ false) × IsLowest (CanSkip g s) t
IsNext g w s queued (idle.Start t) = (can_claim w s queued ≡ false) × IsNone (CanSkip g s) × IsLowest (CanBegin g w s) t
IsNext g w s queued idle.Finish = (can_claim w s queued ≡ false) × IsNone (CanSkip g s) × IsNone (CanBegin g w s) × All IsEnded s.tasks

-- What a worker does that is parked in the action: the first of resuming and claiming an item.
abbrev pub IsNextParked : GraphView → WorkerId → StateView → Bool → ℕ → ParkedChoice → Type 0
IsNextParked g w s queued a parked.Resume = CanGoOn g w s a
IsNextParked g w s queued a parked.Claim = (CanGoOn g w s a → ⊥) × (can_claim w s queued ≡ true)
