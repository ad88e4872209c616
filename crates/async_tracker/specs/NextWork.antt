-- What a worker does next whose items wait in the book.
use Rattle.std.specs.Prelude.{ℕ, ◌≡◌, ◌<◌, Bool, true, Option, Some, None, length}
use Rattle.std.specs.List.{list_any}
use Rattle.lock_journal.specs.Names.{same_mark, GraphView, action_of, lock_with, units_of, StateView, mark_of, WorkerId, Failed, UnitOf, BookView}
use Rattle.ready_work.specs.Choices.{IsQueued}
use Rattle.ready_work.specs.Lowest.{IsLowest, IsNone}
use Rattle.worker_choices.specs.Choices.{IsNext}
use Rattle.worker_choices.specs.NextSteps.{CanGoOn, HasNothingToDo, can_claim}
use Rattle.worker_choices.specs.declared.choices.Choice.TheVariants as choices
use Rattle.coordination.specs.Shown.{ShowsTheSame}
use Rattle.coordination.specs.declared.decisions.Decided.{Decided}
use Rattle.coordination.specs.declared.decisions.Decided.TheVariants as decided
use Rattle.coordination.specs.declared.rule.Sight.{Sight}
use Rattle.async_tracker.specs.Shows.{IsItemHere, ShowsClaimed, ShowsResumed}
use Rattle.async_tracker.specs.Tasks.{ShowsStarted}
use Rattle.async_tracker.specs.declared.next_work.NextWork.{NextWork}
use Rattle.async_tracker.specs.declared.next_work.NextWork.TheVariants as next
use Rattle.async_tracker.specs.declared.next_work.ParkedWork.{ParkedWork}
use Rattle.async_tracker.specs.declared.next_work.ParkedWork.TheVariants as parked
use Rattle.async_tracker.specs.declared.work_steps.WorkStep.{WorkStep}
use Rattle.async_tracker.specs.declared.work_steps.WorkStep.TheVariants as steps

-- The choice of an idle worker, where items wait or don't. What it claims is the lowest queued unit.
abbrev pub IsNextWork : GraphView → WorkerId → StateView → Bool → NextWork → Type 0
IsNextWork g w s queued (next.Claim u) = IsNext g w s queued choices.Claim × IsLowest (IsQueued g s) u
IsNextWork g w s queued next.Beside = IsNext g w s queued choices.Claim × IsNone (IsQueued g s)
IsNextWork g w s queued (next.Skip t) = IsNext g w s queued (choices.Skip t)
IsNextWork g w s queued (next.Start t) = IsNext g w s queued (choices.Start t)
IsNextWork g w s queued next.Finish = IsNext g w s queued choices.Finish

abbrev pub IsNextWorkIf : Bool → WorkerId → BookView → NextWork → Type 0
IsNextWorkIf queued w book next = IsNextWork book.graph w book.state queued next

-- an idle worker has nothing to do, where items wait or don't
abbrev pub IsIdleIf : Bool → WorkerId → BookView → Type 0
IsIdleIf queued w book = HasNothingToDo book.graph w book.state queued

abbrev pub step_of_next : NextWork → Option WorkStep
step_of_next (next.Claim u) = Some (steps.Claim u)
step_of_next next.Beside = None
step_of_next (next.Skip t) = Some (steps.Skip t)
step_of_next (next.Start t) = Some (steps.Start t)
step_of_next next.Finish = None

-- a unit of the action has failed
abbrev pub has_failed : GraphView → StateView → ℕ → Bool
has_failed g s a = list_any (λ u. same_mark (mark_of s (UnitOf u)) Failed) (units_of g a)

-- the choice of a worker that is parked in the action: the first of resuming and claiming the lowest queued unit
abbrev pub IsNextParkedWork : GraphView → WorkerId → StateView → Bool → ℕ → ParkedWork → Type 0
IsNextParkedWork g w s queued a (parked.Resume failed) = CanGoOn g w s a × (failed ≡ has_failed g s a)
IsNextParkedWork g w s queued a (parked.Claim u) = (CanGoOn g w s a → ⊥) × (can_claim w s queued ≡ true) × IsLowest (IsQueued g s) u
IsNextParkedWork g w s queued a parked.Beside = (CanGoOn g w s a → ⊥) × (can_claim w s queued ≡ true) × IsNone (IsQueued g s)

abbrev pub IsNextParkedWorkIf : ℕ → Bool → WorkerId → BookView → ParkedWork → Type 0
IsNextParkedWorkIf a queued w book next = a < length book.graph.actions → IsNextParkedWork book.graph w book.state queued a next

abbrev pub step_of_parked : ℕ → ParkedWork → Option WorkStep
step_of_parked a (parked.Resume failed) = Some (steps.Resume a)
step_of_parked a (parked.Claim u) = Some (steps.Claim u)
step_of_parked a parked.Beside = None

-- what was decided
abbrev pub next_of : Decided NextWork → NextWork
next_of (decided.Answered n) = n
next_of (decided.Entered n entered) = n
next_of (decided.Waiting n) = n

abbrev pub parked_of : Decided ParkedWork → ParkedWork
parked_of (decided.Answered n) = n
parked_of (decided.Entered n entered) = n
parked_of (decided.Waiting n) = n

-- The worker claimed this item of the graph, with a lease.
pub record HasClaimed (u : ℕ) (old new : Sight) : Type 0 where
  pub item : IsItemHere new.seen.graph u
  pub shows : ShowsClaimed u old new

-- an idle worker has the item that it claimed, or the task that it started, its lock and a lease, and else what it had
abbrev pub ShowsNextWork : Sight → Sight → NextWork → Type 0
ShowsNextWork old new (next.Claim u) = HasClaimed u old new
ShowsNextWork old new (next.Start t) = ShowsStarted t old new
ShowsNextWork old new _ = ShowsTheSame old new

-- a worker that was parked in the action has resumed, or has the item that it claimed, or what it had
abbrev pub ShowsParkedWork : ℕ → Sight → Sight → ParkedWork → Type 0
ShowsParkedWork a old new (parked.Resume failed) = ShowsResumed (action_of old.seen.graph a).retention (lock_with old.seen.graph a) a old new
ShowsParkedWork a old new (parked.Claim u) = HasClaimed u old new
ShowsParkedWork a old new parked.Beside = ShowsTheSame old new
