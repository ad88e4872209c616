-- What a decision leaves: a question, and where its answer has a step, the transform that carries it out on the same book.
use Rattle.std.specs.Prelude.{◌≡◌, Bool, true, false, Result, Ok, Err, Option, Some, None, IfSome}
use Rattle.lock_journal.specs.Names.{WorkerId, BookView, FailsIn, IsToRetry, Kind, Disposition, Finished, Retry}
use Rattle.history_views.specs.ShownBooks.{IsUnchanged}
use Rattle.lock_transforms.specs.declared.transforms.Disposition.TheVariants.{Failed}
use Rattle.worker_choices.specs.declared.awaited.Awaited.{Awaited}
use Rattle.worker_choices.specs.declared.stances.Stance.{Stance}
use Rattle.worker_choices.specs.declared.stances.Stance.TheVariants.{Away}
use Rattle.worker_notes.specs.Agrees.{Finds}
use Rattle.coordination.specs.Attempts.{Cause, Making}
use Rattle.coordination.specs.Calls.{HasFailed, HasFinished, HasLooked, IsAnswered}
use Rattle.worker_notes.specs.Offered.{AnswersWith, Telling, TellsQueued, WaitsWith}
use Rattle.worker_notes.specs.SleepAndWake.{EndsHold, begun, comes_again, looks_behind_answers, looks_if, noted_asking, stance_waiting, woken_if}
use Rattle.coordination.specs.Sights.{seeing}
use Rattle.coordination.specs.Turns.{Finishes, HasLeft}
use Rattle.worker_notes.specs.declared.parts.WorkerPart.{WorkerPart}
use Rattle.coordination.specs.declared.decisions.Decided.{Decided}
use Rattle.coordination.specs.declared.decisions.Decided.TheVariants as decided
use Rattle.coordination.specs.declared.rule.Sight.{Sight}
use Rattle.worker_notes.specs.declared.outside_work.Queued.{Queued}
use Rattle.worker_notes.specs.declared.sleepers.Sleepers.{Sleepers}
use Rattle.worker_notes.specs.declared.sleepers.Then.{Then}
use Rattle.worker_notes.specs.declared.sleepers.Wakes.{Wakes}
use Rattle.coordination.specs.declared.turns.Came.{Came}
use Rattle.coordination.specs.declared.turns.Came.TheVariants as came

-- An answer of the old book has a step, which left this.
pub record HasStepped {A X : Type 0} (answers : WorkerId → BookView → A → Type 0) (step_of : A → Option X) (w : WorkerId) (old : BookView) (a : A)
    (leaves : X → Type 0) : Type 0 where
  pub answer : answers w old a
  pub step : X
  pub is : step_of a ≡ Some step
  pub left : leaves step

-- an answer has a step, of a book with the same graph, state and history
abbrev pub HadStep : {A X : Type 0} → (WorkerId → BookView → A → Type 0) → (A → Option X) → WorkerId → BookView → Type 0
HadStep {A} answers step_of w book = (before : BookView) × IsUnchanged before book × (a : A) × HasStepped answers step_of w before a (λ x. Unit {0})

-- what a decision leaves of a book: its answer has no step, or the step was run on the book that the answer was given of
abbrev pub DecideGives : {A X : Type 0} → (WorkerId → BookView → A → Type 0) → (A → Option X) → (X → Kind) → (X → Making) → (X → Cause) → (X → Cause)
    → WorkerId → BookView → BookView → Decided A → Type 0
DecideGives answers step_of kind_of makes fails retries w old new (decided.Answered a) = answers w old a × (step_of a ≡ None) × (new ≡ old)
DecideGives answers step_of kind_of makes fails retries w old new (decided.Entered a true) =
    HasStepped answers step_of w old a (λ x. Finishes (kind_of x) (makes x) w old new)
DecideGives answers step_of kind_of makes fails retries w old new (decided.Entered a false) =
    HasStepped answers step_of w old a (λ x. FailsIn (fails x) old new w (kind_of x))
DecideGives answers step_of kind_of makes fails retries w old new (decided.Waiting a) =
    HasStepped answers step_of w old a (λ x. IsToRetry (retries x) old new w)

-- what came of the step of an answer
abbrev pub carried_out : {A E : Type 0} → A → Result Disposition E → Came (Decided A)
carried_out a (Ok Finished) = came.Done (decided.Entered a true)
carried_out a (Ok Failed) = came.Done (decided.Entered a false)
carried_out a (Ok Retry) = came.Done (decided.Waiting a)
carried_out a (Err e) = came.NoMemory

-- the stance after an entry of this kind, a failed one where it didn't finish
abbrev pub stance_entered : Then → Kind → Bool → Stance
stance_entered behind kind true = looks_if (comes_again behind kind)
stance_entered behind kind false = looks_if (looks_behind_answers behind)

-- How a decision ended its hold: as its question where there is no step, and else as its step.
abbrev pub EndsDecision : {A X : Type 0} → BookView → WorkerId → Option Awaited → (A → Option X) → (X → Kind)
    → Sleepers → Sleepers → Wakes → Came (Decided A) → Type 0
EndsDecision book w awaits step_of kind_of old new wakes (came.Done (decided.Answered a)) =
    EndsHold book w (looks_if (looks_behind_answers old.behind)) false old new wakes
EndsDecision book w awaits step_of kind_of old new wakes (came.Done (decided.Entered a b)) =
    IfSome (step_of a) (λ x. EndsHold book w (stance_entered old.behind (kind_of x) b) true old new wakes)
EndsDecision book w awaits step_of kind_of old new wakes (came.Done (decided.Waiting a)) = EndsHold book w Away false old new wakes
EndsDecision book w awaits step_of kind_of old new wakes came.NoMemory = EndsHold book w Away false old new wakes
EndsDecision book w awaits step_of kind_of old new wakes came.Again = EndsHold book w (stance_waiting awaits) false old new wakes

-- what a worker that sleeps until its answer comes waits for, and one that doesn't
abbrev pub awaits_if : Bool → Option Awaited → Option Awaited
awaits_if true awaits = awaits
awaits_if false awaits = None

-- A decision without an answer sleeps as its question does. A step that asks to be run again doesn't sleep for it.
abbrev pub noted_deciding : {C : Type 0} → Bool → Came C → Sleepers → Sleepers
noted_deciding {C} apart came.Again s = noted_asking {A = C} apart None s
noted_deciding apart came.NoMemory s = s
noted_deciding apart (came.Done c) s = s

-- A worker that was woken or wasn't decided so in a hold of the state lock, where the offers told where items waited, and its part followed.
-- It was left asleep where there was no answer.
pub record HasDecidedHeld {A X : Type 0} (answers : Bool → WorkerId → BookView → A → Type 0) (waits : Bool → WorkerId → BookView → Type 0)
    (awaits : Option Awaited) (step_of : A → Option X) (kind_of : X → Kind) (makes : X → Making) (fails retries : X → Cause) (tells : Telling)
    (w : WorkerId) (behind : Then) (woken apart : Bool) (old new : BookView) (part : WorkerPart) (sleepers sleepers' : Sleepers)
    (result : Came (Decided A) × Wakes) : Type 0 where
  pub queued : Queued
  pub told : TellsQueued tells queued
  pub left : Sleepers
  pub decided : HasLeft (DecideGives (AnswersWith queued answers) step_of kind_of makes fails retries) (WaitsWith queued waits)
      (HadStep (AnswersWith queued answers) step_of) w old new part result.0
  pub ends : EndsDecision new w awaits step_of kind_of (begun queued behind (woken_if woken w sleepers)) left result.1 result.0
  pub noted : sleepers' ≡ noted_deciding apart result.0 left

-- The step of an answer finished, on the book that the answer was given of.
pub record HasCarriedOut {A X : Type 0} (answers : WorkerId → BookView → A → Type 0) (step_of : A → Option X) (kind_of : X → Kind) (makes : X → Making)
    (old new : Sight) (a : A) : Type 0 where
  pub step : X
  pub is : step_of a ≡ Some step
  pub finished : HasFinished (kind_of step) (makes step) old new
  pub answer : answers old.worker finished.before a

-- The step of an answer failed, on the book that the answer was given of.
pub record HasFailedIn {A X : Type 0} (answers : WorkerId → BookView → A → Type 0) (step_of : A → Option X) (kind_of : X → Kind) (fails : X → Cause)
    (old new : Sight) (a : A) : Type 0 where
  pub step : X
  pub is : step_of a ≡ Some step
  pub failed : HasFailed (kind_of step) (fails step) old new
  pub answer : answers old.worker failed.before a

-- The step of an answer asked to be run again on the book that the answer was given of, and left it as it was.
pub record IsToWaitIn {A X : Type 0} (answers : WorkerId → BookView → A → Type 0) (step_of : A → Option X) (retries : X → Cause)
    (old new : Sight) (a : A) : Type 0 where
  pub step : X
  pub is : step_of a ≡ Some step
  pub before : BookView
  pub after : BookView
  pub found : Finds old.worker old.seen before
  pub answer : answers old.worker before a
  pub graph : after.graph ≡ before.graph
  pub unchanged : IsToRetry (retries step) before after old.worker
  pub sight : new ≡ seeing old after

-- There was no memory for the step of an answer. The pass has seen the book that it found, of which the answer was given.
pub record CouldNotStep {A X : Type 0} (answers : WorkerId → BookView → A → Type 0) (step_of : A → Option X) (old new : Sight) : Type 0 where
  pub looked : HasLooked old new
  pub step : HadStep answers step_of new.worker new.seen

-- What a decision leaves of a pass: its answer has no step, or the step made an entry in the book that the answer was given of, or is to
-- be run again.
abbrev pub HasDecided : {A X : Type 0} → (WorkerId → BookView → A → Type 0) → (A → Option X) → (X → Kind) → (X → Making) → (X → Cause) → (X → Cause)
    → Sight → Sight → Decided A → Type 0
HasDecided answers step_of kind_of makes fails retries old new (decided.Answered a) = IsAnswered answers a old new × (step_of a ≡ None)
HasDecided answers step_of kind_of makes fails retries old new (decided.Entered a true) = HasCarriedOut answers step_of kind_of makes old new a
HasDecided answers step_of kind_of makes fails retries old new (decided.Entered a false) = HasFailedIn answers step_of kind_of fails old new a
HasDecided answers step_of kind_of makes fails retries old new (decided.Waiting a) = IsToWaitIn answers step_of retries old new a
