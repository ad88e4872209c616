-- One try under the lock, as the worker sees it.
use Rattle.std.specs.Prelude.{◌≡◌, ◌≢◌, ◌⊎◌, Bool, false, List, Result, Ok, Err, Option, Some, None}
use Rattle.lock_journal.specs.Names.{GraphView, StateView, WorkerId, Change, BookView, FinishesIn, FailsIn, IsToRetry, Kind, Disposition, Finished}
use Rattle.lock_journal.specs.Names.{Retry}
use Rattle.history_views.specs.ShownBooks.{IsUnchanged}
use Rattle.lock_transforms.specs.declared.transforms.Disposition.TheVariants.{Failed}
use Rattle.worker_choices.specs.GoingOn.{last_lets_go_on}
use Rattle.worker_choices.specs.Stances.{asleep}
use Rattle.worker_choices.specs.declared.awaited.Awaited.{Awaited}
use Rattle.worker_notes.specs.declared.parts.WorkerPart.{WorkerPart}
use Rattle.coordination.specs.declared.rule.Sight.{Sight}
use Rattle.worker_notes.specs.declared.outside_work.Queued.{Queued}
use Rattle.worker_notes.specs.declared.sleepers.Sleepers.{Sleepers}
use Rattle.worker_notes.specs.declared.sleepers.Then.{Then}
use Rattle.worker_notes.specs.declared.sleepers.Then.TheVariants.{Leaves}
use Rattle.worker_notes.specs.declared.sleepers.Wakes.{Wakes}
use Rattle.worker_notes.specs.Agrees.{Finds, IsSoundBook}
use Rattle.worker_notes.specs.Offered.{AnswersWith, Telling, TellsQueued, WaitsWith}
use Rattle.worker_notes.specs.Parts.{HasRoom, IsPartOf}
use Rattle.coordination.specs.Sights.{seeing}
use Rattle.worker_notes.specs.SleepAndWake.{EndsHold, GoesOn, begun, has_entered, noted_after, noted_asking, stance_after, stance_asking, woken_if}

-- where a transform may fail, or ask to be run again
abbrev pub Cause : Type 1
Cause = GraphView → WorkerId → StateView → Type 0

-- which changes a transform makes
abbrev pub Making : Type 1
Making = GraphView → WorkerId → StateView → List Change → Type 0

-- what a transform of this kind left of a book
abbrev pub Ran : {E : Type 0} → Kind → Making → Cause → Cause → WorkerId → BookView → BookView → Result Disposition E → Type 0
Ran kind makes fails retries w old new (Ok Finished) = (changes : List Change) × FinishesIn makes old new w kind changes
Ran kind makes fails retries w old new (Ok Failed) = FailsIn fails old new w kind
Ran kind makes fails retries w old new (Ok Retry) = IsToRetry retries old new w
Ran kind makes fails retries w old new (Err e) = IsUnchanged old new

-- The transform was run on the old book and left the new one, the worker's part followed, and the hold ended.
pub record HasRun {E : Type 0} (kind : Kind) (makes : Making) (fails retries : Cause) (w : WorkerId) (old new : BookView)
    (part : WorkerPart) (sleepers sleepers' : Sleepers) (result : Result Disposition E × Wakes) : Type 0 where
  pub graph : new.graph ≡ old.graph
  pub ran : Ran kind makes fails retries w old new result.0
  pub kept : IsPartOf new w part
  pub room : HasRoom part
  pub ends : EndsHold new w (stance_after sleepers.behind kind result.0) (has_entered result.0) sleepers sleepers' result.1

-- The same where the hold goes on behind a transform that finishes, and else ends.
pub record HasRunOn {E : Type 0} (kind : Kind) (makes : Making) (fails retries : Cause) (w : WorkerId) (old new : BookView)
    (part : WorkerPart) (sleepers sleepers' : Sleepers) (result : Result Disposition E × Wakes) : Type 0 where
  pub graph : new.graph ≡ old.graph
  pub ran : Ran kind makes fails retries w old new result.0
  pub kept : IsPartOf new w part
  pub room : HasRoom part
  pub goes : result.0 ≡ Ok Finished → GoesOn (last_lets_go_on new.history) sleepers sleepers' result.1
  pub ends : result.0 ≢ Ok Finished → EndsHold new w (stance_after sleepers.behind kind result.0) (has_entered result.0) sleepers sleepers' result.1

-- The transform found a sound book that agrees with the worker's sight, and left a sound one, which the worker saw.
pub record Attempted {E : Type 0} (kind : Kind) (makes : Making) (fails retries : Cause) (s s' : Sight) (r : Result Disposition E) : Type 0 where
  pub before : BookView
  pub after : BookView
  pub found : Finds s.worker s.seen before
  pub graph : after.graph ≡ before.graph
  pub ran : Ran kind makes fails retries s.worker before after r
  pub left : IsSoundBook after
  pub is : s' ≡ seeing s after

-- what a question may answer
abbrev pub Answers : {A : Type 0} → (WorkerId → BookView → A → Type 0) → (WorkerId → BookView → Type 0) → WorkerId → BookView → Option A → Type 0
Answers answers waits w book (Some a) = answers w book a
Answers answers waits w book None = waits w book

-- The question was asked of a sound book that agrees with the worker's sight, and the worker saw it.
pub record Asked {A : Type 0} (answers : WorkerId → BookView → A → Type 0) (waits : WorkerId → BookView → Type 0) (s s' : Sight) (r : Option A) : Type 0 where
  pub book : BookView
  pub found : Finds s.worker s.seen book
  pub answer : Answers answers waits s.worker book r
  pub is : s' ≡ seeing s book

-- The transform was run so in a hold of the state lock, which left its worker asleep where it asked to be run again and the worker sleeps then.
-- Where somebody slept, the offers told where items waited.
pub record HasHeld {E : Type 0} (kind : Kind) (makes : Making) (fails retries : Cause) (tells : Telling) (w : WorkerId) (behind : Then)
    (sleeps : Bool) (old new : BookView) (part : WorkerPart) (sleepers sleepers' : Sleepers) (result : Result Disposition E × Wakes) : Type 0 where
  pub queued : Queued
  pub told : (asleep sleepers.stances ≡ 0) ⊎ TellsQueued tells queued
  pub left : Sleepers
  pub run : HasRun kind makes fails retries w old new part (begun queued behind sleepers) left result
  pub noted : sleepers' ≡ noted_after sleeps result.0 left

-- The same where the hold goes on behind a transform that finishes, and else ends without counting on the worker.
pub record HasRunFirst {E : Type 0} (kind : Kind) (makes : Making) (fails retries : Cause) (tells : Telling) (w : WorkerId)
    (sleeps : Bool) (old new : BookView) (part : WorkerPart) (sleepers sleepers' : Sleepers) (result : Result Disposition E × Wakes) : Type 0 where
  pub queued : Queued
  pub told : (asleep sleepers.stances ≡ 0) ⊎ TellsQueued tells queued
  pub left : Sleepers
  pub run : HasRunOn kind makes fails retries w old new part (begun queued Leaves sleepers) left result
  pub noted : sleepers' ≡ noted_after sleeps result.0 left

-- The question was asked in a hold of the state lock, by a worker that was woken or wasn't, where the offers told where items waited. It was
-- left asleep where there was no answer.
pub record HasAsked {A : Type 0} (answers : Bool → WorkerId → BookView → A → Type 0) (waits : Bool → WorkerId → BookView → Type 0)
    (awaits : Option Awaited) (tells : Telling) (w : WorkerId) (behind : Then) (woken apart : Bool) (book : BookView)
    (sleepers sleepers' : Sleepers) (result : Option A × Wakes) : Type 0 where
  pub queued : Queued
  pub told : TellsQueued tells queued
  pub left : Sleepers
  pub answer : Answers (AnswersWith queued answers) (WaitsWith queued waits) w book result.0
  pub ends : EndsHold book w (stance_asking behind awaits result.0) false (begun queued behind (woken_if woken w sleepers)) left result.1
  pub noted : sleepers' ≡ noted_asking apart result.0 left
