-- What proofs cite most of this crate, in one place.
pub use Rattle.worker_notes.specs.Agrees.{Agrees, Finds, IsSoundBook}
pub use Rattle.worker_notes.specs.Offered.{AnswersWith, AreTold, AsTold, is_queued_in, Telling, WaitsAsTold, WaitsWith}
pub use Rattle.worker_notes.specs.Parts.{ArePartsFrom, Follows, HasRoom, holding_in, IsPartOf, LeadsOn}
pub use Rattle.worker_notes.specs.SleepAndWake.{AreQuiet, EndsHold, has_entered, HasWoken, stance_after, woken_if}
pub use Rattle.worker_notes.specs.WorkerEntries.{entry_count_of, last_of}
