-- What a decision that was made leaves, as the choice of the rules of a worker at its place.
use Rattle.std.proofs.Common.{◌≡◌, true, false, Option, Some, inl, inr, refl, sym, ◌∙◌, subst}
use Rattle.lock_journal.specs.Names.{WorkerId, BookView, IsFixedList, Closed, Kind}
use Rattle.coordination.specs.Names.{Finds, Cause, Making, HasFinished, HasDecided, decided_of}
use Rattle.coordination.specs.Decisions.{HasCarriedOut}
use Rattle.coordination.specs.declared.decisions.Decided.{Decided}
use Rattle.coordination.specs.declared.decisions.Decided.TheVariants as decided
use Rattle.coordination.specs.declared.rule.Sight.{Sight}
use Rattle.async_tracker.specs.WorkSteps.{kind_of_work}
use Rattle.async_tracker.specs.declared.work_steps.WorkStep.{WorkStep}
use Rattle.planned_work.specs.Done.{ClosedThen, HasClosed, Is}
use Rattle.planned_work.specs.Deciding.{unless_stuck}
use Rattle.planned_work.specs.Next.{Anywhere, GivesWork, HasDoneNext, IsStuckAt, NextIn, StepsOn}
use Rattle.planned_work.specs.declared.answers.Next.{Next}
use Rattle.planned_work.specs.declared.answers.Next.TheVariants as nexts
use Rattle.planned_work.specs.declared.places.Place.{Place}

-- what a step of a worker makes
abbrev pub Makes : WorkStep → Making
Makes step = IsFixedList (kind_of_work step)

-- a decision by answers of the books that a worker finds
module _ {A X : Type 0} (answers others : WorkerId → BookView → A → Type 0) (step_of : A → Option X) (kind_of : X → Kind) (makes : X → Making) (fails retries : X → Cause) (s s' : Sight)
    (f : (book : BookView) → Finds s.worker s.seen book → (a : A) → answers s.worker book a → others s.worker book a) where
  pub decided_found : (d : Decided A) → HasDecided answers step_of kind_of makes fails retries s s' d → HasDecided others step_of kind_of makes fails retries s s' d
  decided_found (decided.Answered a) h = (record { book = h.0.book; found = h.0.found; answer = f h.0.book h.0.found a h.0.answer; sight = h.0.sight }, h.1)
  decided_found (decided.Entered a true) h = record { step = h.step; is = h.is; finished = h.finished; answer = f h.finished.before h.finished.found a h.answer }
  decided_found (decided.Entered a false) h = record { step = h.step; is = h.is; failed = h.failed; answer = f h.failed.before h.failed.found a h.answer }
  decided_found (decided.Waiting a) h =
      record { step = h.step; is = h.is; before = h.before; after = h.after; found = h.found; answer = f h.before h.found a h.answer; graph = h.graph; unchanged = h.unchanged; sight = h.sight }

  pub same_found : (d : Decided A) (h : HasDecided answers step_of kind_of makes fails retries s s' d)
      → decided_of others step_of kind_of makes fails retries s s' d (decided_found d h) ≡ decided_of answers step_of kind_of makes fails retries s s' d h
  unfolding decided_found
  same_found (decided.Answered a) h = refl
  same_found (decided.Entered a true) h = refl
  same_found (decided.Entered a false) h = refl
  same_found (decided.Waiting a) h = refl

same_step : (a b : WorkStep) → Some a ≡ Some b → a ≡ b
same_step a b is = cc

-- a step that was carried out is the entry of its answer, in the book of the answer
pub carried : {A : Type 0} (Here : BookView → Type 0) (answers : WorkerId → BookView → A → Type 0) (step_of : A → Option WorkStep) (s s' : Sight) (a : A) (step : WorkStep) → step_of a ≡ Some step
    → (h : HasCarriedOut answers step_of kind_of_work Makes s s' a) → Here h.finished.before → HasDoneNext Here answers (kind_of_work step) a s s'
carried Here answers step_of s s' a step is h here =
    let p : (f : HasFinished (kind_of_work step) (Makes step) s s') × answers s.worker f.before a × Here f.before =
    subst (λ (x : WorkStep). (f : HasFinished (kind_of_work x) (Makes x) s s') × answers s.worker f.before a × Here f.before) (same_step h.step step (sym h.is ∙ is)) (h.finished, h.answer, here) in
    record { finished = p.0; choice = p.1; here = p.2 }

-- what the choice of a worker at its place came to, where it was made of such a book
abbrev pub Chosen : (BookView → Type 0) → Place → Sight → Sight → Next → Type 0
Chosen Here place s s' (nexts.Do work) = GivesWork Here place s s' work
Chosen Here place s s' nexts.GoesOn = StepsOn Here place s s'
Chosen Here place s s' nexts.Stuck = IsStuckAt place s s'
Chosen Here place s s' n = ⊥

-- as the call that asks what is next says it
pub chosen_next : (place : Place) (s s' : Sight) (n : Next) → Chosen Anywhere place s s' n → NextIn place s s' n
chosen_next place s s' (nexts.Do work) c = c
chosen_next place s s' nexts.GoesOn c = c
chosen_next place s s' nexts.Stuck c = c
chosen_next place s s' nexts.Busy c = absurd c
chosen_next place s s' nexts.Stopped c = absurd c
chosen_next place s s' nexts.Again c = absurd c
chosen_next place s s' nexts.NoMemory c = absurd c
chosen_next place s s' nexts.Misused c = absurd c

-- and as the call that closes an item first does
pub chosen_then : (c : Closed) (place : Place) (s between s' : Sight) (n : Next) → HasClosed c s between → Chosen (Is between.seen) place between s' n → ClosedThen c place s s' (unless_stuck n)
chosen_then c place s between s' (nexts.Do work) closed h = record { between = between; closed = closed; follows = h }
chosen_then c place s between s' nexts.GoesOn closed h = record { between = between; closed = closed; follows = inr (inl h) }
chosen_then c place s between s' nexts.Stuck closed h = record { between = between; closed = closed; follows = inr (inr h) }
chosen_then c place s between s' nexts.Busy closed h = absurd h
chosen_then c place s between s' nexts.Stopped closed h = absurd h
chosen_then c place s between s' nexts.Again closed h = absurd h
chosen_then c place s between s' nexts.NoMemory closed h = absurd h
chosen_then c place s between s' nexts.Misused closed h = absurd h
