-- What is next of workers whose items wait in the book is possible in each book of which it may be given, and what it leaves when it is done.
use Rattle.std.proofs.Common.{◌≡◌, ◌<◌, ◌≤◌, ℕ, Bool, true, false, Option, Some, inl, inr, length, refl, sym, ap, ◌∙◌, subst, arith}
use Rattle.std.specs.List.{list_any}
use Rattle.std.proofs.lemmas.Bool.{false≢true}
use Rattle.lock_journal.specs.Names.{Fits, GraphView, Holding, StateView, mark_of, WorkerId, Queued, UnitOf, IsFixedList, Kind, BookView, is_unit}
use Rattle.ready_work.specs.Choices.{IsQueued}
use Rattle.lock_journal.proofs.Queue.{queued_is_item}
use Rattle.coordination.specs.Names.{Finds, Making, HasFinished, HasDecided, IsToWaitIn, HoldsNothing, AsTold, Telling}
use Rattle.coordination.specs.declared.decisions.Decided.{Decided}
use Rattle.coordination.specs.declared.decisions.Decided.TheVariants as decided
use Rattle.coordination.specs.declared.rule.Sight.{Sight}
use Rattle.coordination.proofs.lemmas.Shown.{answered_shows, failed_shows}
use Rattle.async_tracker.specs.NextWork.{HasClaimed, IsNextParkedWork, IsNextParkedWorkIf, IsNextWork, IsNextWorkIf, ShowsNextWork, ShowsParkedWork, next_of, parked_of, step_of_next, step_of_parked}
use Rattle.async_tracker.specs.ParkedView.{ParkedView}
use Rattle.async_tracker.specs.Shows.{IsFree, IsIdleOrParked, IsItemHere, IsParkedBy}
use Rattle.async_tracker.specs.WorkSteps.{FailsAt, IsRefused, RetriesAt, kind_of_work}
use Rattle.async_tracker.specs.declared.next_work.NextWork.{NextWork}
use Rattle.async_tracker.specs.declared.next_work.NextWork.TheVariants as next
use Rattle.async_tracker.specs.declared.next_work.ParkedWork.{ParkedWork}
use Rattle.async_tracker.specs.declared.next_work.ParkedWork.TheVariants as parked
use Rattle.async_tracker.specs.declared.work_steps.WorkStep.{WorkStep}
use Rattle.async_tracker.specs.declared.work_steps.WorkStep.TheVariants as steps
use Rattle.async_tracker.proofs.Claiming.{claimed_shows}
use Rattle.async_tracker.proofs.QueuedClaims.{claims_at_once}
use Rattle.async_tracker.proofs.TaskSteps.{cannot_start, skipped_shows, started_shows}
use Rattle.async_tracker.proofs.lemmas.Resumed.{resumed_shows, resumes_at_once}

-- the step neither fails nor asks to be run again
abbrev pub IsPossible : WorkStep → BookView → WorkerId → Type 0
IsPossible step book w = (FailsAt step book.graph w book.state → ⊥) × (RetriesAt step book.graph w book.state → ⊥)

pub same_step : (a b : WorkStep) → Some a ≡ Some b → a ≡ b
same_step a b is = cc

-- a step that is possible in each book of which its answer may be given is refused in none
pub never_refused : {A : Type 0} (answers : WorkerId → BookView → A → Type 0) (step_of : A → Option WorkStep) (a : A) (step : WorkStep) (old new : Sight) → step_of a ≡ Some step
    → ((book : BookView) → Finds old.worker old.seen book → answers old.worker book a → IsPossible step book old.worker) → IsRefused answers step_of a old new → ⊥
never_refused answers step_of a step old new is possible (inl f) =
    let before = f.failed.before in
    (possible before f.failed.found f.answer).0 (subst (λ (x : WorkStep). FailsAt x before.graph old.worker before.state) (same_step f.step step (sym f.is ∙ is)) f.failed.failed.cause)
never_refused answers step_of a step old new is possible (inr k) =
    (possible k.before k.found k.answer).1 (subst (λ (x : WorkStep). RetriesAt x k.before.graph old.worker k.before.state) (same_step k.step step (sym k.is ∙ is)) k.unchanged.cause)

pub fits_in : (old : Sight) (book : BookView) → Fits old.seen.graph → Finds old.worker old.seen book → Fits book.graph
fits_in old book fits found = subst Fits (sym found.agrees.graph) fits

-- the claim of the lowest queued unit, by an idle worker and by a parked one
pub idle_claims : (old : Sight) (book : BookView) (u : ℕ) (queued : Bool) → Fits old.seen.graph → Finds old.worker old.seen book → IsFree old → IsIdleOrParked old
    → IsNextWork book.graph old.worker book.state queued (next.Claim u) → IsPossible (steps.Claim u) book old.worker
idle_claims old book u queued fits found free waits choice = (
  λ fails. fails choice.1.is.queued,
  λ again. false≢true (sym (again choice.1.is.within).1 ∙ claims_at_once old book u queued (fits_in old book fits found) found free waits choice.0 choice.1.is),
)

pub parked_claims : (old : Sight) (book : BookView) (a u : ℕ) (queued : Bool) → Fits old.seen.graph → Finds old.worker old.seen book → IsFree old → IsIdleOrParked old
    → IsNextParkedWork book.graph old.worker book.state queued a (parked.Claim u) → IsPossible (steps.Claim u) book old.worker
parked_claims old book a u queued fits found free waits choice = idle_claims old book u queued fits found free waits (choice.1, choice.2)

-- a start
pub starts : (old : Sight) (book : BookView) (t : ℕ) (queued : Bool) → Finds old.worker old.seen book → HoldsNothing old → IsNextWork book.graph old.worker book.state queued (next.Start t) → IsPossible (steps.Start t) book old.worker
starts old book t queued found rests choice = (
  λ fails. cannot_start old book t found rests fails choice.2.is,
  λ again. let within = choice.2.is.start.within in omega (arith, again, within),
)

-- going on behind the items of an action
pub resumes : (old : Sight) (book : BookView) (p : ParkedView) (queued failed : Bool) → Finds old.worker old.seen book → IsParkedBy old p → IsFree old
    → IsNextParkedWork book.graph old.worker book.state queued p.action (parked.Resume failed) → IsPossible (steps.Resume p.action) book old.worker
resumes old book p queued failed found by free choice = (λ no. no, λ again. resumes_at_once old book p found by free choice.0 again)

-- what an idle worker is to claim is queued
idle_queued : (g : GraphView) (w : WorkerId) (s : StateView) (queued : Bool) (u : ℕ) → IsNextWork g w s queued (next.Claim u) → IsQueued g s u
idle_queued g w s queued u choice = choice.1.is

-- the task that is to be skipped is one of the graph
skip_goes : (g : GraphView) (w : WorkerId) (s : StateView) (queued : Bool) (t : ℕ) → IsNextWork g w s queued (next.Skip t) → length g.tasks ≤ t → ⊥
skip_goes g w s queued t choice past = let within = choice.1.is.within in omega (arith, past, within)

-- who has nothing is free, and so is who waits for items
free_resting : {s : Sight} → HoldsNothing s → IsFree s
free_resting rests = record {
  lease = ap (λ (h : Holding). h.lease) rests.holding;
  blocked = ap (λ (h : Holding). h.blocked) rests.holding;
  units = ap (list_any is_unit) rests.claimed;
}

-- the entry of a step
abbrev Enters : WorkStep → Sight → Sight → Type 0
Enters step old new = HasFinished (kind_of_work step) (IsFixedList (kind_of_work step)) old new

-- by the step that an answer has
entered : (step x : WorkStep) (old new : Sight) → Some step ≡ Some x → Enters x old new → Enters step old new
entered step x old new is f = subst (λ (y : WorkStep). Enters y old new) (sym (same_step step x is)) f

-- a unit that was queued where an entry was made is an item of the graph
item_behind : {kind : Kind} {makes : Making} (u : ℕ) (old new : Sight) → Fits old.seen.graph → (f : HasFinished kind makes old new) → IsQueued f.before.graph f.before.state u → IsItemHere new.seen.graph u
item_behind u old new fits f q =
    let book : BookView = f.before in
    let there = subst (λ (s : StateView). mark_of s (UnitOf u) ≡ Queued) f.found.sound.replays q.queued in
    let item : IsItemHere book.graph u = record { in_range = q.within; item = queued_is_item book.graph book.history u (fits_in old book fits f.found) f.found.sound.lawful there } in
    subst (λ (g : GraphView). IsItemHere g u) (sym (ap (λ (x : Sight). x.seen.graph) f.sight ∙ f.graph)) item

claims_item : (step : WorkStep) (u : ℕ) (old new : Sight) → Fits old.seen.graph → Some (steps.Claim u) ≡ Some step → (f : Enters step old new) → IsQueued f.before.graph f.before.state u → HasClaimed u old new
claims_item step u old new fits is f q = record { item = item_behind u old new fits f q; shows = claimed_shows (entered (steps.Claim u) step old new is f) }

-- what an idle worker decides
module _ (tells : Telling) (old new : Sight) where
  abbrev pub DecidesWork : Decided NextWork → Type 0
  DecidesWork = HasDecided (AsTold tells IsNextWorkIf) step_of_next kind_of_work (λ x. IsFixedList (kind_of_work x)) FailsAt RetriesAt old new

  -- the book of which it was given
  pub answered_in : (d : Decided NextWork) → DecidesWork d → (book : BookView) × Finds old.worker old.seen book × AsTold tells IsNextWorkIf old.worker book (next_of d)
  answered_in (decided.Answered n) h = (h.0.book, h.0.found, h.0.answer)
  answered_in (decided.Entered n true) h = (h.finished.before, h.finished.found, h.answer)
  answered_in (decided.Entered n false) h = (h.failed.before, h.failed.found, h.answer)
  answered_in (decided.Waiting n) h = (h.before, h.found, h.answer)

  pub claim_never : (u : ℕ) → Fits old.seen.graph → HoldsNothing old → IsRefused (AsTold tells IsNextWorkIf) step_of_next (next.Claim u) old new → ⊥
  claim_never u fits rests =
      never_refused (AsTold tells IsNextWorkIf) step_of_next (next.Claim u) (steps.Claim u) old new refl
      (λ book found answer. idle_claims old book u answer.0 fits found (free_resting rests) (inl (rests.locks, rests.claimed)) answer.2)

  pub start_never : (t : ℕ) → HoldsNothing old → IsRefused (AsTold tells IsNextWorkIf) step_of_next (next.Start t) old new → ⊥
  start_never t rests = never_refused (AsTold tells IsNextWorkIf) step_of_next (next.Start t) (steps.Start t) old new refl (λ book found answer. starts old book t answer.0 found rests answer.2)

  pub skip_never_waits : (t : ℕ) → IsToWaitIn (AsTold tells IsNextWorkIf) step_of_next RetriesAt old new (next.Skip t) → ⊥
  skip_never_waits t k =
      let again = subst (λ (x : WorkStep). RetriesAt x k.before.graph old.worker k.before.state) (same_step k.step (steps.Skip t) (sym k.is)) k.unchanged.cause in
      skip_goes k.before.graph old.worker k.before.state k.answer.0 t k.answer.2 again

  -- what was decided was done: of its steps a skip alone may fail, and none waits
  pub work_shows : (d : Decided NextWork) → DecidesWork d → Fits old.seen.graph → HoldsNothing old → ShowsNextWork old new (next_of d)
  work_shows (decided.Answered (next.Claim u)) h fits rests = let none = h.1 in absurd (cc)
  work_shows (decided.Answered next.Beside) h fits rests = answered_shows h.0
  work_shows (decided.Answered (next.Skip t)) h fits rests = let none = h.1 in absurd (cc)
  work_shows (decided.Answered (next.Start t)) h fits rests = let none = h.1 in absurd (cc)
  work_shows (decided.Answered next.Finish) h fits rests = answered_shows h.0
  work_shows (decided.Entered (next.Claim u) true) h fits rests =
      let book : BookView = h.finished.before in
      claims_item h.step u old new fits h.is h.finished (idle_queued book.graph old.worker book.state h.answer.0 u h.answer.2)
  work_shows (decided.Entered next.Beside true) h fits rests = let none = h.is in absurd (cc)
  work_shows (decided.Entered (next.Skip t) true) h fits rests = skipped_shows (entered (steps.Skip t) h.step old new h.is h.finished)
  work_shows (decided.Entered (next.Start t) true) h fits rests = started_shows (entered (steps.Start t) h.step old new h.is h.finished) rests
  work_shows (decided.Entered next.Finish true) h fits rests = let none = h.is in absurd (cc)
  work_shows (decided.Entered (next.Claim u) false) h fits rests = absurd (claim_never u fits rests (inl h))
  work_shows (decided.Entered next.Beside false) h fits rests = let none = h.is in absurd (cc)
  work_shows (decided.Entered (next.Skip t) false) h fits rests = failed_shows h.failed
  work_shows (decided.Entered (next.Start t) false) h fits rests = absurd (start_never t rests (inl h))
  work_shows (decided.Entered next.Finish false) h fits rests = let none = h.is in absurd (cc)
  work_shows (decided.Waiting (next.Claim u)) h fits rests = absurd (claim_never u fits rests (inr h))
  work_shows (decided.Waiting next.Beside) h fits rests = let none = h.is in absurd (cc)
  work_shows (decided.Waiting (next.Skip t)) h fits rests = absurd (skip_never_waits t h)
  work_shows (decided.Waiting (next.Start t)) h fits rests = absurd (start_never t rests (inr h))
  work_shows (decided.Waiting next.Finish) h fits rests = let none = h.is in absurd (cc)

-- what a parked worker decides
abbrev pub DecidesParked : Telling → ℕ → Sight → Sight → Decided ParkedWork → Type 0
DecidesParked tells a old new = HasDecided (AsTold tells (IsNextParkedWorkIf a)) (step_of_parked a) kind_of_work (λ x. IsFixedList (kind_of_work x)) FailsAt RetriesAt old new

module _ (tells : Telling) (p : ParkedView) (old new : Sight) where
  within : (book : BookView) → Finds old.worker old.seen book → p.action < length old.seen.graph.actions → p.action < length book.graph.actions
  within book found low = subst (λ (g : GraphView). p.action < length g.actions) (sym found.agrees.graph) low

  pub parked_claim_never : (u : ℕ) → Fits old.seen.graph → p.action < length old.seen.graph.actions → IsFree old → IsIdleOrParked old
      → IsRefused (AsTold tells (IsNextParkedWorkIf p.action)) (step_of_parked p.action) (parked.Claim u) old new → ⊥
  parked_claim_never u fits low free waits =
      never_refused (AsTold tells (IsNextParkedWorkIf p.action)) (step_of_parked p.action) (parked.Claim u) (steps.Claim u) old new refl
      (λ book found answer. parked_claims old book p.action u answer.0 fits found free waits (answer.2 (within book found low)))

  pub resume_never : (failed : Bool) → p.action < length old.seen.graph.actions → IsParkedBy old p → IsFree old
      → IsRefused (AsTold tells (IsNextParkedWorkIf p.action)) (step_of_parked p.action) (parked.Resume failed) old new → ⊥
  resume_never failed low by free =
      never_refused (AsTold tells (IsNextParkedWorkIf p.action)) (step_of_parked p.action) (parked.Resume failed) (steps.Resume p.action) old new refl
      (λ book found answer. resumes old book p answer.0 failed found by free (answer.2 (within book found low)))

  -- the lowest queued unit, where its claim was made
  was_queued : (g : GraphView) (w : WorkerId) (s : StateView) (queued : Bool) (u : ℕ) → IsNextParkedWork g w s queued p.action (parked.Claim u) → IsQueued g s u
  was_queued g w s queued u choice = choice.2.is

  -- what was decided was done: no step of a parked worker fails or waits
  pub parked_work_shows : (d : Decided ParkedWork) → DecidesParked tells p.action old new d → Fits old.seen.graph → p.action < length old.seen.graph.actions → IsParkedBy old p → IsFree old → IsIdleOrParked old
      → ShowsParkedWork p.action old new (parked_of d)
  parked_work_shows (decided.Answered (parked.Resume failed)) h fits low by free waits = let none = h.1 in absurd (cc)
  parked_work_shows (decided.Answered (parked.Claim u)) h fits low by free waits = let none = h.1 in absurd (cc)
  parked_work_shows (decided.Answered parked.Beside) h fits low by free waits = answered_shows h.0
  parked_work_shows (decided.Entered (parked.Resume failed) true) h fits low by free waits =
      resumed_shows free.lease (entered (steps.Resume p.action) h.step old new h.is h.finished)
  parked_work_shows (decided.Entered (parked.Claim u) true) h fits low by free waits =
      let book : BookView = h.finished.before in
      claims_item h.step u old new fits h.is h.finished (was_queued book.graph old.worker book.state h.answer.0 u (h.answer.2 (within book h.finished.found low)))
  parked_work_shows (decided.Entered parked.Beside true) h fits low by free waits = let none = h.is in absurd (cc)
  parked_work_shows (decided.Entered (parked.Resume failed) false) h fits low by free waits = absurd (resume_never failed low by free (inl h))
  parked_work_shows (decided.Entered (parked.Claim u) false) h fits low by free waits = absurd (parked_claim_never u fits low free waits (inl h))
  parked_work_shows (decided.Entered parked.Beside false) h fits low by free waits = let none = h.is in absurd (cc)
  parked_work_shows (decided.Waiting (parked.Resume failed)) h fits low by free waits = absurd (resume_never failed low by free (inr h))
  parked_work_shows (decided.Waiting (parked.Claim u)) h fits low by free waits = absurd (parked_claim_never u fits low free waits (inr h))
  parked_work_shows (decided.Waiting parked.Beside) h fits low by free waits = let none = h.is in absurd (cc)
