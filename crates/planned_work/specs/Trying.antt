-- What one try of a decision or of a transform leaves of a worker of a plan.
use Rattle.std.specs.Prelude.{◌≡◌, ◌≢◌, ◌⊎◌, Bool, true, false, Option}
use Rattle.lock_journal.specs.Names.{GraphView, StateView, WorkerId, BookView, Kind}
use Rattle.ready_work.specs.Choices.{has_queued}
use Rattle.coordination.specs.Names.{Finds, Cause, Making, HasFinished, HasLooked, HadStep, HasDecided, HasDecidedBehind, seeing}
use Rattle.coordination.specs.declared.decisions.Decided.{Decided}
use Rattle.coordination.specs.declared.decisions.Followed.{Followed}
use Rattle.coordination.specs.declared.decisions.Followed.TheVariants as followed
use Rattle.coordination.specs.declared.rule.Sight.{Sight}
use Rattle.coordination.specs.declared.turns.Came.{Came}
use Rattle.coordination.specs.declared.turns.Came.TheVariants as came
use Rattle.planned_work.specs.declared.trying.Behind.{Behind}
use Rattle.planned_work.specs.declared.trying.Behind.TheVariants as behind
use Rattle.planned_work.specs.declared.trying.Ran.{Ran}
use Rattle.planned_work.specs.declared.trying.Ran.TheVariants as ran
use Rattle.planned_work.specs.declared.trying.Tried.{Tried}
use Rattle.planned_work.specs.declared.trying.Tried.TheVariants as tried

-- an answer of a book, whose own queued units are offered
abbrev pub OfBook : {A : Type 0} → (Bool → WorkerId → BookView → A → Type 0) → WorkerId → BookView → A → Type 0
OfBook answers w book a = answers (has_queued book.state) w book a

-- a wait for an answer of it
abbrev pub WaitsOfBook : (Bool → WorkerId → BookView → Type 0) → WorkerId → BookView → Type 0
WaitsOfBook waits w book = waits (has_queued book.state) w book

-- a cause of the book that a worker finds
abbrev pub InBook : Cause → WorkerId → BookView → Type 0
InBook cause w book = cause book.graph w book.state

-- there is no such cause
abbrev pub NeverHappens : Cause → Type 0
NeverHappens cause = (g : GraphView) (w : WorkerId) (s : StateView) → cause g w s → ⊥

-- The book that was found is a cause to wait, and nothing of the worker's has changed.
pub record HasToWaitFor (waits : WorkerId → BookView → Type 0) (old new : Sight) : Type 0 where
  pub book : BookView
  pub found : Finds old.worker old.seen book
  pub cause : waits old.worker book
  pub sight : new ≡ seeing old book

-- a decision that was tried once
abbrev pub DecisionLeaves : {A X : Type 0} → (Bool → WorkerId → BookView → A → Type 0) → (Bool → WorkerId → BookView → Type 0) → (A → Option X) → (X → Kind)
    → (X → Making) → (X → Cause) → (X → Cause) → Sight → Sight → Tried A → Type 0
DecisionLeaves answers waits step_of kind_of makes fails retries old new (tried.Decided d) =
    HasDecided (OfBook answers) step_of kind_of makes fails retries old new d
DecisionLeaves answers waits step_of kind_of makes fails retries old new tried.Unanswered = HasToWaitFor (WaitsOfBook waits) old new
DecisionLeaves answers waits step_of kind_of makes fails retries old new tried.NoMemory = HasLooked old new
DecisionLeaves answers waits step_of kind_of makes fails retries old new tried.Again = new ≡ old

-- The transform finished. Of the book that it left there is no answer yet, or there was no memory for the step of one.
pub record HasFinishedAlone {A X : Type 0} (answers : WorkerId → BookView → A → Type 0) (waits : WorkerId → BookView → Type 0) (step_of : A → Option X)
    (kind : Kind) (making : Making) (old new : Sight) : Type 0 where
  pub finished : HasFinished kind making old new
  pub why : waits new.worker new.seen ⊎ HadStep answers step_of new.worker new.seen

-- a transform that never fails and was tried once, with the decision behind it
abbrev pub FollowLeaves : {A X : Type 0} → (Bool → WorkerId → BookView → A → Type 0) → (Bool → WorkerId → BookView → Type 0) → (A → Option X) → (X → Kind)
    → (X → Making) → (X → Cause) → (X → Cause) → Kind → Making → Cause → Sight → Sight → Behind A → Type 0
FollowLeaves answers waits step_of kind_of makes fails retries kind making retrying old new (behind.Decided d) =
    HasDecidedBehind (OfBook answers) step_of kind_of makes fails retries kind making old new d
FollowLeaves answers waits step_of kind_of makes fails retries kind making retrying old new behind.Alone =
    HasFinishedAlone (OfBook answers) (WaitsOfBook waits) step_of kind making old new
FollowLeaves answers waits step_of kind_of makes fails retries kind making retrying old new behind.NoMemory = HasLooked old new
FollowLeaves answers waits step_of kind_of makes fails retries kind making retrying old new behind.Retry = HasToWaitFor (InBook retrying) old new
FollowLeaves answers waits step_of kind_of makes fails retries kind making retrying old new behind.Again = new ≡ old

-- a transform that never fails and was tried once
abbrev pub RunLeaves : Kind → Making → Cause → Sight → Sight → Ran → Type 0
RunLeaves kind making retrying old new ran.Finished = HasFinished kind making old new
RunLeaves kind making retrying old new ran.NoMemory = HasLooked old new
RunLeaves kind making retrying old new ran.Retry = HasToWaitFor (InBook retrying) old new
RunLeaves kind making retrying old new ran.Again = new ≡ old

-- whether there was a hold
abbrev pub had_hold : {A : Type 0} → Tried A → Bool
had_hold (tried.Decided d) = true
had_hold tried.Unanswered = true
had_hold tried.NoMemory = true
had_hold tried.Again = false

abbrev pub had_hold_behind : {A : Type 0} → Behind A → Bool
had_hold_behind (behind.Decided d) = true
had_hold_behind behind.Alone = true
had_hold_behind behind.NoMemory = true
had_hold_behind behind.Retry = true
had_hold_behind behind.Again = false

abbrev pub had_hold_run : Ran → Bool
had_hold_run ran.Finished = true
had_hold_run ran.NoMemory = true
had_hold_run ran.Retry = true
had_hold_run ran.Again = false

-- what came of a turn, as these say it
abbrev pub tried_of : {A : Type 0} → Came (Decided A) → Tried A
tried_of (came.Done d) = tried.Decided d
tried_of came.NoMemory = tried.NoMemory
tried_of came.Again = tried.Unanswered

abbrev pub behind_of : {A : Type 0} → Came (Followed A) → Behind A
behind_of (came.Done (followed.Decided d)) = behind.Decided d
behind_of (came.Done followed.Undecided) = behind.Alone
behind_of (came.Done followed.NoMemory) = behind.Alone
behind_of (came.Done followed.Failed) = behind.Again
behind_of came.NoMemory = behind.NoMemory
behind_of came.Again = behind.Retry

abbrev pub ran_of : Came Bool → Ran
ran_of (came.Done true) = ran.Finished
ran_of (came.Done false) = ran.Again
ran_of came.NoMemory = ran.NoMemory
ran_of came.Again = ran.Retry

-- the transform of a turn didn't fail
abbrev pub NeverFailed : {A : Type 0} → Came (Followed A) → Type 0
NeverFailed c = c ≢ came.Done followed.Failed
