-- What a worker does next, as the rules give it: of which book, and in which entry.
use Rattle.std.specs.Prelude.{ℕ, ◌≡◌, ◌<◌, ◌⊎◌, Bool, true, false, not, Option, Some}
use Rattle.lock_journal.specs.Names.{WorkerId, BookView, IsFixedList, Kind}
use Rattle.ready_work.specs.Choices.{has_queued}
use Rattle.lock_transforms.specs.declared.entries.Kind.TheVariants as kinds
use Rattle.worker_choices.specs.NextSteps.{HasNothingToDo, HasToWait}
use Rattle.coordination.specs.Names.{HasFinished, HasLooked, IsAnswered, hearing}
use Rattle.coordination.specs.declared.rule.Sight.{Sight}
use Rattle.async_tracker.specs.NextWork.{IsNextParkedWork, IsNextWork, step_of_next, step_of_parked}
use Rattle.async_tracker.specs.WorkSteps.{IsRefused}
use Rattle.async_tracker.specs.declared.next_work.NextWork.{NextWork}
use Rattle.async_tracker.specs.declared.next_work.NextWork.TheVariants as next
use Rattle.async_tracker.specs.declared.next_work.ParkedWork.{ParkedWork}
use Rattle.async_tracker.specs.declared.next_work.ParkedWork.TheVariants as parked
use Rattle.async_tracker.specs.declared.work_steps.WorkStep.{WorkStep}
use Rattle.single_steps.specs.TaskMoves.{IsNextInTask, step_of_move}
use Rattle.single_steps.specs.declared.task_moves.TaskMove.{TaskMove}
use Rattle.single_steps.specs.declared.task_moves.TaskMove.TheVariants as moves
use Rattle.planned_work.specs.Places.{may_next, place_of}
use Rattle.planned_work.specs.Trying.{HasToWaitFor}
use Rattle.planned_work.specs.declared.answers.Next.{Next}
use Rattle.planned_work.specs.declared.answers.Next.TheVariants as nexts
use Rattle.planned_work.specs.declared.answers.Work.{Work}
use Rattle.planned_work.specs.declared.answers.Work.TheVariants as works
use Rattle.planned_work.specs.declared.places.Place.{Place}
use Rattle.planned_work.specs.declared.places.Place.TheVariants as places

-- the choice of an idle worker, of one that is parked in an action, and of one that runs a task, where the book's own queued units can be claimed
abbrev pub IsIdleChoice : WorkerId → BookView → NextWork → Type 0
IsIdleChoice w book n = IsNextWork book.graph w book.state (has_queued book.state) n

abbrev pub IsParkedChoice : ℕ → WorkerId → BookView → ParkedWork → Type 0
IsParkedChoice a w book n = IsNextParkedWork book.graph w book.state (has_queued book.state) a n

abbrev pub IsMove : ℕ → WorkerId → BookView → TaskMove → Type 0
IsMove t w book m = IsNextInTask book.graph w book.state t m

-- The choice was made of a book that agrees with what the worker had seen, of which this is so, and the choice's entry stands in that very book.
pub record HasDoneNext {A : Type 0} (Here : BookView → Type 0) (answers : WorkerId → BookView → A → Type 0) (kind : Kind) (a : A)
    (old new : Sight) : Type 0 where
  pub finished : HasFinished kind (IsFixedList kind) old new
  pub choice : answers old.worker finished.before a
  pub here : Here finished.before

-- All tasks have ended in such a book, and the worker is told so.
pub record IsToldTheEnd (Here : BookView → Type 0) (old new : Sight) : Type 0 where
  pub told : IsAnswered IsIdleChoice next.Finish old new
  pub here : Here told.book

-- whichever book is found
abbrev pub Anywhere : BookView → Type 0
Anywhere book = Unit {0}

-- the worker has got this to do at its place
abbrev pub GivesWork : (BookView → Type 0) → Place → Sight → Sight → Work → Type 0
GivesWork Here places.Idle old new (works.Item u) = HasDoneNext Here IsIdleChoice (kinds.Claim u) (next.Claim u) old new
GivesWork Here places.Idle old new (works.Task t) = HasDoneNext Here IsIdleChoice (kinds.Start t) (next.Start t) old new
GivesWork Here places.Idle old new works.Ended = IsToldTheEnd Here old new
GivesWork Here (places.InTask t) old new (works.Fetch u) = HasDoneNext Here (IsMove t) (kinds.Block (Some u)) (moves.Fetch u) old new
GivesWork Here (places.Parked a) old new (works.Item u) = HasDoneNext Here (IsParkedChoice a) (kinds.Claim u) (parked.Claim u) old new
GivesWork Here (places.Parked a) old new (works.Action b passed) =
    (b ≡ a) × (failed : Bool) × (passed ≡ not failed) × HasDoneNext Here (IsParkedChoice a) (kinds.Resume a) (parked.Resume failed) old new
GivesWork Here _ old new _ = ⊥

-- in its task the worker has queued items, begun to wait for them, or ended the task, as was next
abbrev pub MovesOn : (BookView → Type 0) → ℕ → Sight → Sight → Type 0
MovesOn Here t old new = HasDoneNext Here (IsMove t) (kinds.End t) moves.End old new
    ⊎ ((a : ℕ) × HasDoneNext Here (IsMove t) (kinds.Submit a) (moves.Submit a) old new)
    ⊎ ((a : ℕ) × HasDoneNext Here (IsMove t) (kinds.Park a) (moves.Park a) old new)

-- the worker has made the entry that was next at its place, which is nothing for its caller
abbrev pub StepsOn : (BookView → Type 0) → Place → Sight → Sight → Type 0
StepsOn Here places.Idle old new = (t : ℕ) × HasDoneNext Here IsIdleChoice (kinds.Skip t) (next.Skip t) old new
StepsOn Here (places.InTask t) old new = MovesOn Here t old new
StepsOn Here _ old new = ⊥

-- the rules give a worker at this place no choice of the book
abbrev pub HasNoChoice : Place → WorkerId → BookView → Type 0
HasNoChoice places.Idle w book = HasNothingToDo book.graph w book.state (has_queued book.state)
HasNoChoice (places.Parked a) w book = HasToWait book.graph w book.state (has_queued book.state) a
HasNoChoice _ w book = ⊥

-- an entry was refused, which was next
abbrev pub IsStuckWith : {A : Type 0} → (WorkerId → BookView → A → Type 0) → (A → Option WorkStep) → Sight → Sight → Type 0
IsStuckWith {A} answers step_of old new = (a : A) × IsRefused answers step_of a old new

abbrev pub IsStuckAt : Place → Sight → Sight → Type 0
IsStuckAt places.Idle = IsStuckWith IsIdleChoice step_of_next
IsStuckAt (places.InTask t) = IsStuckWith (IsMove t) (step_of_move t)
IsStuckAt (places.Parked a) = IsStuckWith (IsParkedChoice a) (step_of_parked a)
IsStuckAt _ = λ old new. ⊥

-- what a worker's question at a place where it may ask has come to
abbrev pub NextIn : Place → Sight → Sight → Next → Type 0
NextIn place old new (nexts.Do work) = GivesWork Anywhere place old new work
NextIn place old new nexts.GoesOn = StepsOn Anywhere place old new
NextIn place old new nexts.Busy = HasToWaitFor (HasNoChoice place) old new
NextIn place old new nexts.Again = new ≡ old
NextIn place old new nexts.NoMemory = HasLooked old new
NextIn place old new nexts.Stuck = IsStuckAt place old new
NextIn place old new _ = ⊥

-- what the call leaves, by its answer
abbrev pub NextLeaves : Sight → Sight → Next → Type 0
NextLeaves old new nexts.Misused = (new ≡ old) × (may_next (place_of old) ≡ false)
NextLeaves old new nexts.Stopped = (by : WorkerId) × (by.0 < old.seen.graph.workers) × (new ≡ hearing old by)
NextLeaves old new n = NextIn (place_of old) old new n

-- whether it had a hold
abbrev pub had_hold : Next → Bool
had_hold nexts.Misused = false
had_hold nexts.Stopped = false
had_hold nexts.Again = false
had_hold n = true
