-- What closing a unit leaves, and what is decided behind it in the same hold.
use Rattle.std.specs.Prelude.{ℕ, ◌≡◌, ◌⊎◌, Bool, true, false, Option, Some, None}
use Rattle.item_actions.specs.declared.outcomes.Outcome.TheVariants as outcomes
use Rattle.lock_journal.specs.Names.{WorkerId, BookView, IsDisabled, IsFixedList, Closed}
use Rattle.lock_transforms.specs.declared.entries.Kind.TheVariants as kinds
use Rattle.worker_choices.specs.NextSteps.{can_take_up}
use Rattle.blocking_section.specs.Sections.{CanNotTakeUp}
use Rattle.coordination.specs.Names.{Finds, HasFinished, HasLooked, WasStopped, HadStep, KnowsNoStop}
use Rattle.coordination.specs.declared.rule.Sight.{Sight}
use Rattle.async_tracker.specs.NextWork.{step_of_next, step_of_parked}
use Rattle.planned_work.specs.Next.{GivesWork, HasNoChoice, IsIdleChoice, IsParkedChoice, IsStuckAt, StepsOn}
use Rattle.planned_work.specs.Places.{closes, place_of}
use Rattle.planned_work.specs.Trying.{HasToWaitFor, InBook}
use Rattle.planned_work.specs.declared.answers.Answer.{Answer}
use Rattle.planned_work.specs.declared.answers.Answer.TheVariants as answers
use Rattle.planned_work.specs.declared.answers.Next.{Next}
use Rattle.planned_work.specs.declared.answers.Next.TheVariants as nexts
use Rattle.planned_work.specs.declared.places.Place.{Place}
use Rattle.planned_work.specs.declared.places.Place.TheVariants as places
use Rattle.planned_work.specs.declared.trying.Ran.{Ran}
use Rattle.planned_work.specs.declared.trying.Ran.TheVariants as ran

-- the unit with the number that it gave, or failed
abbrev pub closed_as : ℕ → Option ℕ → Closed
closed_as u (Some n) = record { unit = u; outcome = outcomes.Number n }
closed_as u None = record { unit = u; outcome = outcomes.Fault }

-- one entry closes the item
abbrev pub HasClosed : Closed → Sight → Sight → Type 0
HasClosed c = HasFinished (kinds.Close c) (IsFixedList (kinds.Close c))

-- one entry takes up what the worker has parked, with a lease, and closes the fetch if there is one
abbrev pub HasTakenUp : Option Closed → Sight → Sight → Type 0
HasTakenUp closed = HasFinished (kinds.Unblock closed) (IsFixedList (kinds.Unblock closed))

-- an item is closed
abbrev pub CloseLeaves : Closed → Sight → Sight → Answer → Type 0
CloseLeaves c old new answers.Done = HasClosed c old new
CloseLeaves c old new answers.Again = new ≡ old
CloseLeaves c old new answers.NoMemory = HasLooked old new
CloseLeaves c old new answers.Stuck = HasToWaitFor (InBook (IsDisabled (kinds.Close c))) old new
CloseLeaves c old new _ = ⊥

-- The worker knew of no stop, and can't have what it has parked, or no lease is free.
pub record CannotTakeUpYet (old new : Sight) : Type 0 where
  pub unheard : KnowsNoStop old
  pub waits : HasToWaitFor (InBook CanNotTakeUp) old new

-- What was parked could be had and a lease was free, but the entry isn't allowed.
pub record IsKeptInside (closed : Option Closed) (old new : Sight) : Type 0 where
  pub book : BookView
  pub found : Finds old.worker old.seen book
  pub disabled : IsDisabled (kinds.Unblock closed) book.graph old.worker book.state
  pub free : can_take_up old.worker book.state ≡ true
  pub looked : HasLooked old new

-- a section is left, or a fetch closed
abbrev pub TakeUpLeaves : Option Closed → Sight → Sight → Answer → Type 0
TakeUpLeaves closed old new answers.Done = HasTakenUp closed old new
TakeUpLeaves closed old new answers.Busy = CannotTakeUpYet old new
TakeUpLeaves closed old new answers.Stopped = (by : WorkerId) × WasStopped CanNotTakeUp by old new
TakeUpLeaves closed old new answers.Again = new ≡ old
TakeUpLeaves closed old new answers.NoMemory = HasLooked old new
TakeUpLeaves closed old new answers.Stuck = IsKeptInside closed old new
TakeUpLeaves closed old new _ = ⊥

abbrev pub DoneIn : Place → Option ℕ → Sight → Sight → Answer → Type 0
DoneIn (places.Item u) gave = CloseLeaves (closed_as u gave)
DoneIn (places.ItemIn u a) gave = CloseLeaves (closed_as u gave)
DoneIn (places.Fetch u) gave = TakeUpLeaves (Some (closed_as u gave))
DoneIn _ gave = λ old new answer. ⊥

-- the unit that the pass shows is closed
abbrev pub DoneLeaves : Option ℕ → Sight → Sight → Answer → Type 0
DoneLeaves gave old new answers.Misused = (new ≡ old) × (closes (place_of old) ≡ false)
DoneLeaves gave old new answer = DoneIn (place_of old) gave old new answer

-- the very book that was left
abbrev pub Is : BookView → BookView → Type 0
Is left book = book ≡ left

-- The item was closed, and this followed from what the worker had seen then.
pub record HasClosedAnd (c : Closed) (old : Sight) (Follows : Sight → Type 0) : Type 0 where
  pub between : Sight
  pub closed : HasClosed c old between
  pub follows : Follows between

-- of the book that a closing left the rules give no choice, or there was no memory for the entry of one
abbrev pub HadToLeaveIt : Place → Sight → Type 0
HadToLeaveIt places.Idle s = HasNoChoice places.Idle s.worker s.seen ⊎ HadStep IsIdleChoice step_of_next s.worker s.seen
HadToLeaveIt (places.Parked a) s = HasNoChoice (places.Parked a) s.worker s.seen ⊎ HadStep (IsParkedChoice a) (step_of_parked a) s.worker s.seen
HadToLeaveIt _ s = ⊥

-- nothing was given to the worker behind the closing
abbrev pub AsksAgain : Place → Sight → Sight → Type 0
AsksAgain place between new = ((new ≡ between) × HadToLeaveIt place between) ⊎ (StepsOn (Is between.seen) place between new ⊎ IsStuckAt place between new)

-- the item is closed, and what is next at the place to which the worker comes by that is decided on the very book that this leaves
abbrev pub ClosedThen : Closed → Place → Sight → Sight → Next → Type 0
ClosedThen c place old new (nexts.Do work) = HasClosedAnd c old (λ between. GivesWork (Is between.seen) place between new work)
ClosedThen c place old new nexts.GoesOn = HasClosedAnd c old (λ between. AsksAgain place between new)
ClosedThen c place old new nexts.Again = new ≡ old
ClosedThen c place old new nexts.NoMemory = HasLooked old new
ClosedThen c place old new nexts.Stuck = HasToWaitFor (InBook (IsDisabled (kinds.Close c))) old new
ClosedThen c place old new _ = ⊥

-- a call that closes, as one that is to say what is next
abbrev pub next_of_answer : Answer → Next
next_of_answer answers.Done = nexts.GoesOn
next_of_answer answers.Busy = nexts.Busy
next_of_answer answers.Stopped = nexts.Stopped
next_of_answer answers.Again = nexts.Again
next_of_answer answers.NoMemory = nexts.NoMemory
next_of_answer answers.Misused = nexts.Misused
next_of_answer answers.Stuck = nexts.Stuck

-- the unit is closed alone, and the answer says what came of that
abbrev pub ClosedAlone : (Answer → Type 0) → Next → Type 0
ClosedAlone Leaves n = (answer : Answer) × (n ≡ next_of_answer answer) × Leaves answer

abbrev pub DoneNextIn : Place → Option ℕ → Sight → Sight → Next → Type 0
DoneNextIn (places.Item u) gave old new n = ClosedThen (closed_as u gave) places.Idle old new n
DoneNextIn (places.ItemIn u a) gave old new n = ClosedThen (closed_as u gave) (places.Parked a) old new n
DoneNextIn (places.Fetch u) gave old new n = ClosedAlone (TakeUpLeaves (Some (closed_as u gave)) old new) n
DoneNextIn _ gave old new n = ⊥

-- The unit is closed, and what is next decided. A worker that knows of a stop closes it alone.
abbrev pub DoneNextLeaves : Option ℕ → Sight → Sight → Next → Type 0
DoneNextLeaves gave old new nexts.Misused = (new ≡ old) × (closes (place_of old) ≡ false)
DoneNextLeaves gave old new n = (KnowsNoStop old × DoneNextIn (place_of old) gave old new n)
    ⊎ ((KnowsNoStop old → ⊥) × ClosedAlone (DoneIn (place_of old) gave old new) n)

-- what a transform that never fails came to
abbrev pub answer_of : Ran → Answer
answer_of ran.Finished = answers.Done
answer_of ran.NoMemory = answers.NoMemory
answer_of ran.Retry = answers.Stuck
answer_of ran.Again = answers.Again

-- whether a call had a hold that closes and says what is next: it hears of a stop behind one alone
abbrev pub had_hold_closing : Next → Bool
had_hold_closing nexts.Misused = false
had_hold_closing nexts.Again = false
had_hold_closing n = true

-- whether a call had a hold that closes, or enters or leaves a section
abbrev pub ends_hold : Answer → Bool
ends_hold answers.Misused = false
ends_hold answers.Again = false
ends_hold _ = true
