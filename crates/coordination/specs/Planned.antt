-- What a turn leaves of a book that offers its own queued units.
use Rattle.std.specs.Prelude.{◌≡◌}
use Rattle.lock_journal.specs.Names.{WorkerId, BookView}
use Rattle.ready_work.specs.Choices.{has_queued}
use Rattle.worker_notes.specs.Offered.{AreTold, Telling}
use Rattle.worker_notes.specs.SleepAndWake.{AreQuiet, EndsTurn}
use Rattle.worker_notes.specs.declared.outside_work.QueuedUnits.{QueuedUnits}
use Rattle.coordination.specs.declared.rule.Sight.{Sight}
use Rattle.worker_notes.specs.declared.sleepers.Sleepers.{Sleepers}
use Rattle.worker_notes.specs.declared.sleepers.Then.{Then}
use Rattle.worker_notes.specs.declared.sleepers.Wakes.{Wakes}

-- with each book it is told whether a unit is queued there
abbrev pub TellsOwn : Telling
TellsOwn = AreTold {O = QueuedUnits} (λ _ book queued. queued ≡ has_queued book.state)

-- A turn ended so. Before it and behind it somebody looked, or each sleeper still waited.
pub record HasEndedTry (w : WorkerId) (behind : Then) (old new : BookView) (wakes later : Wakes) : Type 0 where
  pub before : Sleepers
  pub after : Sleepers
  pub was_quiet : AreQuiet old (has_queued old.state) before.stances
  pub ends : EndsTurn TellsOwn w behind old new before after wakes later
  pub quiet : AreQuiet new (has_queued new.state) after.stances

-- the same of what the worker has seen behind it
abbrev pub HasEndedTryOf : Sight → Wakes → Wakes → Type 0
HasEndedTryOf s wakes later = (behind : Then) × (found : BookView) × HasEndedTry s.worker behind found s.seen wakes later
