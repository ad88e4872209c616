-- What proofs cite most of the state, its entries and its histories, in one place.
pub use Rattle.resource_lock.specs.AtRest.{IsAtRest}
pub use Rattle.resource_lock.specs.Change.{can, can_all, holding_after, make, make_all, names_only, NamesOnly, same_mark, stands_last, without_last}
pub use Rattle.resource_lock.specs.Fits.{Fits, Follow}
pub use Rattle.resource_lock.specs.Good.{Good}
pub use Rattle.resource_lock.specs.GraphView.{action_of, GraphTaskView, GraphView, no_action, no_task, task_of}
pub use Rattle.resource_lock.specs.Made.{made_of}
pub use Rattle.resource_lock.specs.Opening.{opening_of}
pub use Rattle.resource_lock.specs.ProjectLocks.{project_lock}
pub use Rattle.resource_lock.specs.Ranges.{actions_of, earlier_actions, fetches, first_item, is_item, IsActionOf, IsFetchOf, IsIn, IsItemOf, IsUnitOf}
pub use Rattle.resource_lock.specs.Ranges.{items_of, lock_with, task_with, units_in, units_of}
pub use Rattle.resource_lock.specs.Shape.{BelongsTo, SameShape}
pub use Rattle.resource_lock.specs.StateView.{empty_holding, has_parked, Holding, holding_of, is_idle, is_owner, is_parked, IsLockOf, IsMarkOf, IsWorkerOf}
pub use Rattle.resource_lock.specs.StateView.{kept_from, leases_out, mark_of, owner_of, owns, owns_any, runs_any, runs_by, runs_task, runs_unit, stands_in}
pub use Rattle.resource_lock.specs.StateView.{StateView}
pub use Rattle.resource_lock.specs.Trying.{can_lease}
pub use Rattle.resource_lock.specs.declared.changes.Change.{Change}
pub use Rattle.resource_lock.specs.declared.changes.Change.TheVariants.{Enter, Give, Leave, Lock, Move, Park as ParkLock, Take, Unlock, Unpark}
pub use Rattle.resource_lock.specs.declared.graphs.GraphAction.{GraphAction}
pub use Rattle.resource_lock.specs.declared.graphs.Retention.{Retention}
pub use Rattle.resource_lock.specs.declared.graphs.Retention.TheVariants.{Release, ReleaseAndReacquire, Retain}
pub use Rattle.resource_lock.specs.declared.ids.LockId.{LockId}
pub use Rattle.resource_lock.specs.declared.ids.WorkerId.{WorkerId}
pub use Rattle.resource_lock.specs.declared.limits.TheConstants.{MAX_ACTIONS_PER_TASK, MAX_AFTER, MAX_UNITS}
pub use Rattle.resource_lock.specs.declared.marks.Mark.{Mark}
pub use Rattle.resource_lock.specs.declared.marks.Mark.TheVariants.{Failed, Passed, Queued, Running, Running as IsRunning, Skipped, Waiting}
pub use Rattle.resource_lock.specs.declared.marks.MarkId.{MarkId}
pub use Rattle.resource_lock.specs.declared.marks.MarkId.TheVariants.{Action as ActionOf, Task as TaskOf, Unit as UnitOf}
pub use Rattle.lock_transforms.specs.Allowed.{Allowed, Finishes, IsDisabled, IsFixedList, IsKindOf, IsListOf, IsUnmet, Lawful, lawful_from}
pub use Rattle.lock_transforms.specs.Entry.{changed, effect, Entry, entry, prefix_state, replay, replay_from}
pub use Rattle.lock_transforms.specs.GoingOn.{lets_go_on}
pub use Rattle.lock_transforms.specs.MostChanges.{IsRoomFor, locks_gained}
pub use Rattle.lock_transforms.specs.Table.{condition, earlier_passed, end_mark, fetch_closed, has_ended, has_passed, is_enabled, list_of, mark_from}
pub use Rattle.lock_transforms.specs.Table.{moved_units, never_ran, on_park, on_resume, owned, owned_from, parked_locks, skipped_action, skipped_actions}
pub use Rattle.lock_transforms.specs.Table.{skipped_waiting, taken_again, taken_up, units_passed, works_on}
pub use Rattle.lock_transforms.specs.Taking.{acquired, can_take_all, is_open, may_acquire, rises}
pub use Rattle.lock_transforms.specs.TentativeView.{all_recalled, TentativeView}
pub use Rattle.lock_transforms.specs.declared.entries.Closed.{Closed}
pub use Rattle.lock_transforms.specs.declared.entries.Kind.{Kind}
pub use Rattle.lock_transforms.specs.declared.entries.Kind.TheVariants.{Acquire, Block, Claim, Close, End, HandBack, Park, Resume, Skip, Start, Submit}
pub use Rattle.lock_transforms.specs.declared.entries.Kind.TheVariants.{Unblock}
pub use Rattle.lock_transforms.specs.declared.kinds.acquires.Shortage.{Shortage}
pub use Rattle.lock_transforms.specs.declared.kinds.acquires.Shortage.TheVariants.{Fails, Waits}
pub use Rattle.lock_transforms.specs.declared.transforms.Disposition.{Disposition}
pub use Rattle.lock_transforms.specs.declared.transforms.Disposition.TheVariants.{Finished, Retry}
pub use Rattle.lock_journal.specs.Admitting.{HasAdmitted, IsRefused}
pub use Rattle.lock_journal.specs.Answers.{answers, IsHonestWorker}
pub use Rattle.lock_journal.specs.Book.{AreLastOrNone, IsSound}
pub use Rattle.lock_journal.specs.BookView.{BookView}
pub use Rattle.lock_journal.specs.Bounds.{IsFitKind}
pub use Rattle.lock_journal.specs.ByNumber.{outcome_by}
pub use Rattle.lock_journal.specs.Changes.{changes_left}
pub use Rattle.lock_journal.specs.ClosedBy.{closed_at, closed_by, closed_in, faults_by, faults_in}
pub use Rattle.lock_journal.specs.Closing.{IsDone}
pub use Rattle.lock_journal.specs.Closings.{closed_of, ClosesWithin, closing_of, closings, last_or, outcome_in, where_finished}
pub use Rattle.lock_journal.specs.Giving.{GivesTo}
pub use Rattle.lock_journal.specs.HistoryView.{HistoryView}
pub use Rattle.lock_journal.specs.LastChanges.{last_changes, made_by}
pub use Rattle.lock_journal.specs.Marks.{AfterPassed, HasEnded, IsEnded}
pub use Rattle.lock_journal.specs.Outcomes.{action_passes, AreRanks, earlier_pass, is_skipped, task_outcome, task_passes, unit_outcome}
pub use Rattle.lock_journal.specs.Own.{action_at, claimed, is_action, is_unit, marks_in, NoneOf, places_from, SameFor, task_at, unit_at}
pub use Rattle.lock_journal.specs.OwnChanges.{after_all, claimed_after, lock_before, locks_after, mark_before, with_if, with_member, without_if}
pub use Rattle.lock_journal.specs.OwnChanges.{without_member}
pub use Rattle.lock_journal.specs.Ran.{FailsIn, FinishesIn, IsToRetry}
pub use Rattle.lock_journal.specs.Runs.{ComesTo, GivesClosedOutcomes, IsOrderly}
pub use Rattle.lock_journal.specs.Segment.{IsSoundSegment, segment_view}
pub use Rattle.lock_journal.specs.SegmentView.{SegmentView}
pub use Rattle.lock_journal.specs.StoredChange.{change_of_worker, IsOwnChange, stored_change}
pub use Rattle.lock_journal.specs.StoredClosing.{AreDigestsFrom, closing_from}
pub use Rattle.lock_journal.specs.StoredClosings.{ClosingsView}
pub use Rattle.lock_journal.specs.StoredEntry.{AreStored, closing_at, closings_until, end_before, entries_from, entry_from, IsLastNumber, kind_from, place_by}
pub use Rattle.lock_journal.specs.StoredEntry.{place_in}
