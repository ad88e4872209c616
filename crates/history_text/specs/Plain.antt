-- The words of a history under plain names.
pub use Rattle.item_actions.specs.declared.outcomes.Outcome.{Outcome}
pub use Rattle.item_actions.specs.declared.outcomes.Outcome.TheVariants.{Number, Digest, NotThere, TooLong, Fault, NoMemory, Skipped as NotRun}
pub use Rattle.resource_lock.specs.declared.ids.LockId.{LockId}
pub use Rattle.resource_lock.specs.declared.ids.WorkerId.{WorkerId}
pub use Rattle.resource_lock.specs.declared.marks.MarkId.{MarkId}
pub use Rattle.resource_lock.specs.declared.marks.MarkId.TheVariants.{Task as TaskOf, Action as ActionOf, Unit as UnitOf}
pub use Rattle.resource_lock.specs.declared.marks.Mark.{Mark}
pub use Rattle.resource_lock.specs.declared.marks.Mark.TheVariants.{Waiting, Queued, Running, Passed, Failed, Skipped}
pub use Rattle.resource_lock.specs.declared.changes.Change.{Change}
pub use Rattle.resource_lock.specs.declared.changes.Change.TheVariants.{Lock, Unlock, Take, Give, Move, Park, Unpark, Enter, Leave}
pub use Rattle.lock_transforms.specs.declared.entries.Closed.{Closed}
pub use Rattle.lock_transforms.specs.declared.entries.Kind.{Kind}
pub use Rattle.lock_transforms.specs.declared.entries.Kind.TheVariants.{Start, Skip, Submit, Park as ParkFor, Resume, Claim, Close, Block, Unblock, End}
pub use Rattle.lock_transforms.specs.declared.entries.Kind.TheVariants.{Acquire, HandBack}
