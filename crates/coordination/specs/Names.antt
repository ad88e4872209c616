-- What proofs cite most of this crate, in one place.
pub use Rattle.worker_notes.specs.Agrees.{Agrees, Finds, IsSoundBook}
pub use Rattle.coordination.specs.Attempts.{Cause, Making, Ran}
pub use Rattle.coordination.specs.Calls.{AskedInVain, HasFailed, HasFinished, HasLooked, IsAnswered, WasStopped}
pub use Rattle.coordination.specs.Closings.{IsClosedBy}
pub use Rattle.coordination.specs.Decisions.{awaits_if, CouldNotStep, DecideGives, HadStep, HasDecided, IsToWaitIn}
pub use Rattle.coordination.specs.Holds.{HoldsNothing}
pub use Rattle.coordination.specs.Kept.{kept, KeptView}
pub use Rattle.worker_notes.specs.Offered.{AnswersWith, AreTold, AsTold, is_queued_in, Telling, WaitsAsTold, WaitsWith}
pub use Rattle.worker_notes.specs.Parts.{ArePartsFrom, Follows, HasRoom, holding_in, IsPartOf, LeadsOn}
pub use Rattle.coordination.specs.Passes.{CoordinationView, PassView, ServiceId, view_in}
pub use Rattle.coordination.specs.Planned.{TellsOwn}
pub use Rattle.coordination.specs.Rule.{AddsOwn, carried_book, FitsSight, home_of, M, Orderly, OutFits, put_back, Taken, taken}
pub use Rattle.coordination.specs.RunThenDecide.{decided_of, FollowGives, HasDecidedBehind, HasFollowed}
pub use Rattle.coordination.specs.Shown.{blocked_shown, claimed_shown, lease_shown, locks_shown, parked_shown, Shows, ShowsTheSame}
pub use Rattle.coordination.specs.Sights.{all_of, hearing, one, seeing, sight, sight_of, sights_from, workers_from}
pub use Rattle.worker_notes.specs.SleepAndWake.{AreQuiet, EndsHold, has_entered, HasWoken, stance_after, woken_if}
pub use Rattle.coordination.specs.Stops.{KnowsNoStop}
pub use Rattle.coordination.specs.Turns.{AskGives, HasLeft, HasTurned, Leaves, RunGives, sight_at}
pub use Rattle.worker_notes.specs.WorkerEntries.{entry_count_of, last_of}
