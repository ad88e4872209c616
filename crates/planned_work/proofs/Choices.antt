-- What a worker does next, by what its decision came to.
use Rattle.std.proofs.Common.{◌≡◌, ◌∙◌, ◌<◌, ℕ, Bool, true, false, None, inl, inr, length, refl, sym}
use Rattle.std.proofs.lemmas.Bool.{and_parts, true≢false}
use Rattle.ready_work.specs.Choices.{IsQueued, has_queued}
use Rattle.ready_work.specs.Lowest.{IsNone}
use Rattle.ready_work.proofs.QueuedUnits.{queued_by_lowest}
use Rattle.lock_journal.specs.Names.{BelongsTo, BookView, GraphView, StateView, WorkerId, can_lease}
use Rattle.coordination.specs.Names.{HasDecided, decided_of}
use Rattle.coordination.specs.declared.decisions.Decided.{Decided}
use Rattle.coordination.specs.declared.decisions.Decided.TheVariants as decided
use Rattle.coordination.specs.declared.rule.Sight.{Sight}
use Rattle.worker_notes.proofs.lemmas.Entries.{belongs_sound}
use Rattle.worker_choices.specs.NextSteps.{HasToWait, can_claim}
use Rattle.async_tracker.specs.NextWork.{IsIdleIf, IsNextParkedWork, IsNextParkedWorkIf, IsNextWork, IsNextWorkIf, step_of_next, step_of_parked}
use Rattle.async_tracker.specs.WorkSteps.{FailsAt, RetriesAt, kind_of_work}
use Rattle.async_tracker.specs.declared.next_work.NextWork.{NextWork}
use Rattle.async_tracker.specs.declared.next_work.NextWork.TheVariants as next
use Rattle.async_tracker.specs.declared.next_work.ParkedWork.{ParkedWork}
use Rattle.async_tracker.specs.declared.next_work.ParkedWork.TheVariants as parked
use Rattle.async_tracker.specs.declared.work_steps.WorkStep.TheVariants as steps
use Rattle.single_steps.specs.TaskMoves.{IsNextInTask, step_of_move}
use Rattle.single_steps.specs.declared.task_moves.TaskMove.{TaskMove}
use Rattle.single_steps.specs.declared.task_moves.TaskMove.TheVariants as moves
use Rattle.planned_work.specs.Deciding.{idle_next, moved_next, parked_next}
use Rattle.planned_work.specs.Next.{Anywhere, IsIdleChoice, IsMove, IsParkedChoice, NextIn}
use Rattle.planned_work.specs.Places.{place_of}
use Rattle.planned_work.specs.Trying.{DecisionLeaves, OfBook}
use Rattle.planned_work.specs.declared.places.Place.TheVariants as places
use Rattle.planned_work.specs.declared.trying.Tried.{Tried}
use Rattle.planned_work.specs.declared.trying.Tried.TheVariants as tried
use Rattle.planned_work.proofs.Carried.{Chosen, Makes, carried, chosen_next, decided_found}
use Rattle.planned_work.proofs.Placed.{parked_there, task_there}

-- where no unit is queued nothing can be popped of what the book offers
nothing_to_claim : (g : GraphView) (w : WorkerId) (s : StateView) (queued : Bool) → BelongsTo g s → queued ≡ has_queued s → IsNone (IsQueued g s) → can_claim w s queued ≡ true → ⊥
nothing_to_claim g w s queued belongs own none pops =
    true≢false (sym (and_parts queued (can_lease s w) pops).0 ∙ (own ∙ sym (queued_by_lowest g s None belongs tt none)))

-- an idle worker never goes for an item beside the book
never_beside : (g : GraphView) (w : WorkerId) (s : StateView) (queued : Bool) → BelongsTo g s → queued ≡ has_queued s → IsNextWork g w s queued next.Beside → ⊥
never_beside g w s queued belongs own is = nothing_to_claim g w s queued belongs own is.1 is.0

-- nor does a parked one
never_beside_parked : (g : GraphView) (w : WorkerId) (s : StateView) (queued : Bool) (a : ℕ) → BelongsTo g s → queued ≡ has_queued s → IsNextParkedWork g w s queued a parked.Beside → ⊥
never_beside_parked g w s queued a belongs own is = nothing_to_claim g w s queued belongs own is.2 is.1

-- decisions by these answers
abbrev pub DecidesIdle : Sight → Sight → Decided NextWork → Type 0
DecidesIdle s s' d = HasDecided IsIdleChoice step_of_next kind_of_work Makes FailsAt RetriesAt s s' d

abbrev pub DecidesParked : ℕ → Sight → Sight → Decided ParkedWork → Type 0
DecidesParked a s s' d = HasDecided (IsParkedChoice a) (step_of_parked a) kind_of_work Makes FailsAt RetriesAt s s' d

abbrev pub DecidesMove : ℕ → Sight → Sight → Decided TaskMove → Type 0
DecidesMove t s s' d = HasDecided (IsMove t) (step_of_move t) kind_of_work Makes FailsAt RetriesAt s s' d

module _ (Here : BookView → Type 0) (s s' : Sight) where
  pub idle_chosen : (d : Decided NextWork) (h : DecidesIdle s s' d) → Here (decided_of IsIdleChoice step_of_next kind_of_work Makes FailsAt RetriesAt s s' d h) → Chosen Here places.Idle s s' (idle_next (tried.Decided d))
  idle_chosen (decided.Entered (next.Claim u) true) h here = carried Here IsIdleChoice step_of_next s s' (next.Claim u) (steps.Claim u) refl h here
  idle_chosen (decided.Entered (next.Start t) true) h here = carried Here IsIdleChoice step_of_next s s' (next.Start t) (steps.Start t) refl h here
  idle_chosen (decided.Entered (next.Skip t) true) h here = (t, carried Here IsIdleChoice step_of_next s s' (next.Skip t) (steps.Skip t) refl h here)
  idle_chosen (decided.Entered next.Beside true) h here = let none = h.is in absurd (cc)
  idle_chosen (decided.Entered next.Finish true) h here = let none = h.is in absurd (cc)
  idle_chosen (decided.Entered (next.Claim u) false) h here = (next.Claim u, inl h)
  idle_chosen (decided.Entered (next.Start t) false) h here = (next.Start t, inl h)
  idle_chosen (decided.Entered (next.Skip t) false) h here = (next.Skip t, inl h)
  idle_chosen (decided.Entered next.Beside false) h here = let none = h.is in absurd (cc)
  idle_chosen (decided.Entered next.Finish false) h here = let none = h.is in absurd (cc)
  idle_chosen (decided.Waiting (next.Claim u)) h here = (next.Claim u, inr h)
  idle_chosen (decided.Waiting (next.Start t)) h here = (next.Start t, inr h)
  idle_chosen (decided.Waiting (next.Skip t)) h here = (next.Skip t, inr h)
  idle_chosen (decided.Waiting next.Beside) h here = let none = h.is in absurd (cc)
  idle_chosen (decided.Waiting next.Finish) h here = let none = h.is in absurd (cc)
  idle_chosen (decided.Answered next.Finish) h here = record { told = h.0; here = here }
  idle_chosen (decided.Answered next.Beside) h here = absurd (never_beside h.0.book.graph s.worker h.0.book.state (has_queued h.0.book.state) (belongs_sound h.0.book h.0.found.sound) refl h.0.answer)
  idle_chosen (decided.Answered (next.Claim u)) h here = let none = h.1 in absurd (cc)
  idle_chosen (decided.Answered (next.Start t)) h here = let none = h.1 in absurd (cc)
  idle_chosen (decided.Answered (next.Skip t)) h here = let none = h.1 in absurd (cc)

  pub parked_chosen : (a : ℕ) (d : Decided ParkedWork) (h : DecidesParked a s s' d) → Here (decided_of (IsParkedChoice a) (step_of_parked a) kind_of_work Makes FailsAt RetriesAt s s' d h)
      → Chosen Here (places.Parked a) s s' (parked_next a (tried.Decided d))
  parked_chosen a (decided.Entered (parked.Claim u) true) h here = carried Here (IsParkedChoice a) (step_of_parked a) s s' (parked.Claim u) (steps.Claim u) refl h here
  parked_chosen a (decided.Entered (parked.Resume failed) true) h here =
      (refl, failed, refl, carried Here (IsParkedChoice a) (step_of_parked a) s s' (parked.Resume failed) (steps.Resume a) refl h here)
  parked_chosen a (decided.Entered parked.Beside true) h here = let none = h.is in absurd (cc)
  parked_chosen a (decided.Entered (parked.Claim u) false) h here = (parked.Claim u, inl h)
  parked_chosen a (decided.Entered (parked.Resume failed) false) h here = (parked.Resume failed, inl h)
  parked_chosen a (decided.Entered parked.Beside false) h here = let none = h.is in absurd (cc)
  parked_chosen a (decided.Waiting (parked.Claim u)) h here = (parked.Claim u, inr h)
  parked_chosen a (decided.Waiting (parked.Resume failed)) h here = (parked.Resume failed, inr h)
  parked_chosen a (decided.Waiting parked.Beside) h here = let none = h.is in absurd (cc)
  parked_chosen a (decided.Answered (parked.Claim u)) h here = let none = h.1 in absurd (cc)
  parked_chosen a (decided.Answered (parked.Resume failed)) h here = let none = h.1 in absurd (cc)
  parked_chosen a (decided.Answered parked.Beside) h here =
      absurd (never_beside_parked h.0.book.graph s.worker h.0.book.state (has_queued h.0.book.state) a (belongs_sound h.0.book h.0.found.sound) refl h.0.answer)

  pub move_chosen : (t : ℕ) (d : Decided TaskMove) (h : DecidesMove t s s' d) → Here (decided_of (IsMove t) (step_of_move t) kind_of_work Makes FailsAt RetriesAt s s' d h) → Chosen Here (places.InTask t) s s' (moved_next (tried.Decided d))
  move_chosen t (decided.Entered (moves.Fetch u) true) h here = carried Here (IsMove t) (step_of_move t) s s' (moves.Fetch u) (steps.Fetch u) refl h here
  move_chosen t (decided.Entered (moves.Submit a) true) h here = inr (inl (a, carried Here (IsMove t) (step_of_move t) s s' (moves.Submit a) (steps.Submit a) refl h here))
  move_chosen t (decided.Entered (moves.Park a) true) h here = inr (inr (a, carried Here (IsMove t) (step_of_move t) s s' (moves.Park a) (steps.Park a) refl h here))
  move_chosen t (decided.Entered moves.End true) h here = inl (carried Here (IsMove t) (step_of_move t) s s' moves.End (steps.End t) refl h here)
  move_chosen t (decided.Entered (moves.Fetch u) false) h here = (moves.Fetch u, inl h)
  move_chosen t (decided.Entered (moves.Submit a) false) h here = (moves.Submit a, inl h)
  move_chosen t (decided.Entered (moves.Park a) false) h here = (moves.Park a, inl h)
  move_chosen t (decided.Entered moves.End false) h here = (moves.End, inl h)
  move_chosen t (decided.Waiting (moves.Fetch u)) h here = (moves.Fetch u, inr h)
  move_chosen t (decided.Waiting (moves.Submit a)) h here = (moves.Submit a, inr h)
  move_chosen t (decided.Waiting (moves.Park a)) h here = (moves.Park a, inr h)
  move_chosen t (decided.Waiting moves.End) h here = (moves.End, inr h)
  move_chosen t (decided.Answered (moves.Fetch u)) h here = let none = h.1 in absurd (cc)
  move_chosen t (decided.Answered (moves.Submit a)) h here = let none = h.1 in absurd (cc)
  move_chosen t (decided.Answered (moves.Park a)) h here = let none = h.1 in absurd (cc)
  move_chosen t (decided.Answered moves.End) h here = let none = h.1 in absurd (cc)

-- the waits and the answers of the questions, as they are asked: those in an action or a task hold of what is there
abbrev pub ParkedWaits : ℕ → Bool → WorkerId → BookView → Type 0
ParkedWaits a queued w book = a < length book.graph.actions → HasToWait book.graph w book.state queued a

abbrev pub MoveAnswers : ℕ → Bool → WorkerId → BookView → TaskMove → Type 0
MoveAnswers t queued w book m = t < length book.graph.tasks → IsNextInTask book.graph w book.state t m

-- what is next of a worker at each place, by one try
pub idle_in : (s s' : Sight) (t : Tried NextWork) → DecisionLeaves IsNextWorkIf IsIdleIf step_of_next kind_of_work Makes FailsAt RetriesAt s s' t → NextIn places.Idle s s' (idle_next t)
idle_in s s' (tried.Decided d) h =
    chosen_next places.Idle s s' (idle_next (tried.Decided d))
    (idle_chosen Anywhere s s' d (decided_found (OfBook IsNextWorkIf) IsIdleChoice step_of_next kind_of_work Makes FailsAt RetriesAt s s' (λ book found n answer. answer) d h) tt)
idle_in s s' tried.Unanswered h = record { book = h.book; found = h.found; cause = h.cause; sight = h.sight }
idle_in s s' tried.NoMemory h = h
idle_in s s' tried.Again h = h

pub parked_in : (a : ℕ) (s s' : Sight) (t : Tried ParkedWork) → place_of s ≡ places.Parked a → DecisionLeaves (IsNextParkedWorkIf a) (ParkedWaits a) (step_of_parked a) kind_of_work Makes FailsAt RetriesAt s s' t
    → NextIn (places.Parked a) s s' (parked_next a t)
parked_in a s s' (tried.Decided d) is h =
    chosen_next (places.Parked a) s s' (parked_next a (tried.Decided d))
    (parked_chosen Anywhere s s' a d (decided_found (OfBook (IsNextParkedWorkIf a)) (IsParkedChoice a) (step_of_parked a) kind_of_work Makes FailsAt RetriesAt s s' (λ book found n answer. answer (parked_there s book a is found)) d h) tt)
parked_in a s s' tried.Unanswered is h = record { book = h.book; found = h.found; cause = h.cause (parked_there s h.book a is h.found); sight = h.sight }
parked_in a s s' tried.NoMemory is h = h
parked_in a s s' tried.Again is h = h

pub moved_in : (t : ℕ) (s s' : Sight) (m : Tried TaskMove) → place_of s ≡ places.InTask t → DecisionLeaves (MoveAnswers t) (λ queued w book. ⊥) (step_of_move t) kind_of_work Makes FailsAt RetriesAt s s' m
    → NextIn (places.InTask t) s s' (moved_next m)
moved_in t s s' (tried.Decided d) is h =
    chosen_next (places.InTask t) s s' (moved_next (tried.Decided d))
    (move_chosen Anywhere s s' t d (decided_found (OfBook (MoveAnswers t)) (IsMove t) (step_of_move t) kind_of_work Makes FailsAt RetriesAt s s' (λ book found m answer. answer (task_there s book t is found)) d h) tt)
moved_in t s s' tried.Unanswered is h = absurd h.cause
moved_in t s s' tried.NoMemory is h = h
moved_in t s s' tried.Again is h = h
