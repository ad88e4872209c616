-- Who isn't noted as asleep at the end of a turn.
use Rattle.std.proofs.Common.{◌≡◌, ◌≢◌, ◌<◌, ◌⊎◌, ℕ, Bool, true, false, inl, inr, List, Result, Ok, Err, Option, Some, None, IfSome, refl, sym, ap, ◌∙◌, subst, arith}
use Rattle.std.specs.Prelude.{set, slice_get, length}
use Rattle.std.proofs.lemmas.Bool.{cases_eq}
use Rattle.std.proofs.lemmas.List.{get_or-set_other, get_or-set_same, length-set}
use Rattle.std.proofs.lemmas.Option.{get_or_from_slice_get, slice_get_within}
use Rattle.lock_journal.specs.Names.{WorkerId, BookView, Kind, Disposition, Finished, Retry}
use Rattle.lock_transforms.specs.declared.transforms.Disposition.TheVariants.{Failed}
use Rattle.worker_choices.specs.declared.awaited.Awaited.{Awaited}
use Rattle.worker_choices.specs.declared.stances.Stance.{Stance}
use Rattle.worker_choices.specs.declared.stances.Stance.TheVariants.{Away, Looks, Sleeps}
use Rattle.worker_choices.specs.declared.woken.Woken.{Woken}
use Rattle.worker_choices.specs.declared.woken.Woken.TheVariants as woken
use Rattle.coordination.specs.declared.decisions.Decided.{Decided}
use Rattle.coordination.specs.declared.decisions.Decided.TheVariants as decided
use Rattle.worker_notes.specs.declared.parts.WorkerPart.{WorkerPart}
use Rattle.worker_notes.specs.declared.sleepers.Sleepers.{Sleepers}
use Rattle.worker_notes.specs.declared.sleepers.Wakes.{Wakes}
use Rattle.coordination.specs.declared.turns.Came.{Came}
use Rattle.coordination.specs.declared.turns.Came.TheVariants as came
use Rattle.coordination.specs.Attempts.{Cause, HasAsked, HasHeld, HasRunFirst, Making}
use Rattle.coordination.specs.Decisions.{DecideGives, EndsDecision, HadStep, HasDecidedHeld, noted_deciding, stance_entered}
use Rattle.worker_notes.specs.SleepAndWake.{EndsHold, IsAwake, begun, has_entered, looks_behind_answers, looks_if, noted_after, noted_asking, stance_after, stance_asking, stance_waiting, stances_after, woken_if}
use Rattle.worker_notes.specs.Offered.{AnswersWith, Telling, WaitsWith}
use Rattle.worker_notes.specs.declared.outside_work.Queued.{Queued}
use Rattle.worker_notes.specs.declared.sleepers.Then.{Then}
use Rattle.worker_notes.specs.declared.sleepers.Then.TheVariants.{Leaves as ThenLeaves}
use Rattle.coordination.specs.Turns.{Leaves}
use Rattle.worker_notes.proofs.Sleeping.{none_sleeps}

looks_awake : (b : Bool) (a : Awaited) → looks_if b ≢ Sleeps a
looks_awake true a is = cc
looks_awake false a is = cc

after_awake : {E : Type 0} (behind : Then) (kind : Kind) (r : Result Disposition E) (a : Awaited) → stance_after behind kind r ≢ Sleeps a
after_awake behind kind (Ok Finished) a is = looks_awake _ a is
after_awake behind kind (Ok Failed) a is = looks_awake _ a is
after_awake behind kind (Ok Retry) a is = cc
after_awake behind kind (Err e) a is = cc

entered_awake : (behind : Then) (kind : Kind) (b : Bool) (a : Awaited) → stance_entered behind kind b ≢ Sleeps a
entered_awake behind kind true a is = looks_awake _ a is
entered_awake behind kind false a is = looks_awake _ a is

-- what the stance of a worker is that was noted
pub stance_at : (xs : List Stance) (i : ℕ) (stance : Stance) (a : Awaited) → slice_get (set xs i stance) i ≡ Some (Sleeps a) → i < length xs → stance ≡ Sleeps a
stance_at xs i stance a at low = sym (get_or-set_same xs i stance Away low) ∙ get_or_from_slice_get (set xs i stance) i (Sleeps a) Away at

within : (xs : List Stance) (i : ℕ) (stance : Stance) (a : Awaited) → slice_get (set xs i stance) i ≡ Some (Sleeps a) → i < length xs
within xs i stance a at = subst (λ (n : ℕ). i < n) (length-set xs i stance) (slice_get_within (set xs i stance) i (Sleeps a) at)

-- the same after somebody else, or the worker itself, was woken
one_awake : (xs : List Stance) (i v : ℕ) (stance : Stance) (a : Awaited) → stance ≢ Sleeps a → slice_get (set (set xs i stance) v Looks) i ≡ Some (Sleeps a) → (v ≡ i) ⊎ (v ≡ i → ⊥) → ⊥
one_awake xs i v stance a awake at (inl same) =
    let here = subst (λ (k : ℕ). slice_get (set (set xs i stance) k Looks) i ≡ Some (Sleeps a)) same at in
    let looks : Looks ≡ Sleeps a = stance_at (set xs i stance) i Looks a here (within (set xs i stance) i Looks a here) in
    cc
one_awake xs i v stance a awake at (inr other) =
    let low : i < length xs = omega (arith, slice_get_within (set (set xs i stance) v Looks) i (Sleeps a) at, length-set (set xs i stance) v Looks, length-set xs i stance) in
    awake (sym (get_or-set_same xs i stance Away low) ∙ (sym (get_or-set_other (set xs i stance) v i Looks Away (λ e. other (sym e))) ∙ get_or_from_slice_get (set (set xs i stance) v Looks) i (Sleeps a) Away at))

-- whoever takes a stance that isn't sleep isn't noted as asleep, whoever is woken
awake_in : (who : Woken) (xs : List Stance) (w : WorkerId) (stance : Stance) (a : Awaited) → stance ≢ Sleeps a → slice_get (stances_after who (set xs w.0 stance)) w.0 ≢ Some (Sleeps a)
awake_in woken.Nobody xs w stance a awake at = awake (stance_at xs w.0 stance a at (within xs w.0 stance a at))
awake_in (woken.One v) xs w stance a awake at = one_awake xs w.0 v.0 stance a awake at (cases_eq v.0 w.0)
awake_in woken.All xs w stance a awake at = none_sleeps (length (set xs w.0 stance)) w.0 a at

held_awake : (book : BookView) (w : WorkerId) (stance : Stance) (entered : Bool) (old left new : Sleepers) (wakes : Wakes) → EndsHold book w stance entered old left wakes → ((a : Awaited) → stance ≢ Sleeps a) → new.stances ≡ left.stances → IsAwake w new
held_awake book w stance entered old left new wakes e awake same a at = awake_in wakes.workers old.stances w stance a (awake a) (subst (λ (xs : List Stance). slice_get xs w.0 ≡ Some (Sleeps a)) (same ∙ e.stances) at)

-- what is noted beside leaves the stances as they are
noted_same : {E : Type 0} (b : Bool) (r : Result Disposition E) (s : Sleepers) → (noted_after b r s).stances ≡ s.stances
noted_same b (Ok Finished) s = refl
noted_same b (Ok Failed) s = refl
noted_same true (Ok Retry) s = refl
noted_same false (Ok Retry) s = refl
noted_same b (Err e) s = refl

asked_same : {A : Type 0} (apart : Bool) (r : Option A) (s : Sleepers) → (noted_asking apart r s).stances ≡ s.stances
asked_same false None s = refl
asked_same true None s = refl
asked_same false (Some a) s = refl
asked_same true (Some a) s = refl

decided_same : {C : Type 0} (apart : Bool) (c : Came C) (s : Sleepers) → (noted_deciding apart c s).stances ≡ s.stances
decided_same {C} apart came.Again s = asked_same {A = C} apart None s
decided_same apart came.NoMemory s = refl
decided_same apart (came.Done c) s = refl

-- at the end of the hold of a transform, and of a question that was answered
pub run_awake : {E : Type 0} (kind : Kind) (makes : Making) (fails retries : Cause) (tells : Telling) (w : WorkerId) (behind : Then) (b : Bool) (old new : BookView) (part : WorkerPart) (before after : Sleepers) (r : Result Disposition E × Wakes)
    → HasHeld kind makes fails retries tells w behind b old new part before after r → IsAwake w after
run_awake kind makes fails retries tells w behind b old new part before after r h =
    held_awake new w (stance_after behind kind r.0) (has_entered r.0) (begun h.queued behind before) h.left after r.1 h.run.ends (λ a. after_awake behind kind r.0 a) (ap (λ (s : Sleepers). s.stances) h.noted ∙ noted_same b r.0 h.left)

pub stopped_awake : {E : Type 0} (kind : Kind) (makes : Making) (fails retries : Cause) (tells : Telling) (w : WorkerId) (b : Bool) (old new : BookView) (part : WorkerPart) (before after : Sleepers) (r : Result Disposition E × Wakes)
    → HasRunFirst kind makes fails retries tells w b old new part before after r → r.0 ≢ Ok Finished → IsAwake w after
stopped_awake kind makes fails retries tells w b old new part before after r h ne =
    held_awake new w (stance_after ThenLeaves kind r.0) (has_entered r.0) (begun h.queued ThenLeaves before) h.left after r.1 (h.run.ends ne) (λ a. after_awake ThenLeaves kind r.0 a) (ap (λ (s : Sleepers). s.stances) h.noted ∙ noted_same b r.0 h.left)

pub asked_awake : {A : Type 0} (answers : Bool → WorkerId → BookView → A → Type 0) (waits : Bool → WorkerId → BookView → Type 0) (awaits : Option Awaited) (tells : Telling) (w : WorkerId) (behind : Then) (woken apart : Bool) (book : BookView) (before after : Sleepers) (r : Option A × Wakes)
    → HasAsked answers waits awaits tells w behind woken apart book before after r → (a : A) → r.0 ≡ Some a → IsAwake w after
asked_awake {A} answers waits awaits tells w behind woken apart book before after r h a is =
    held_awake book w (stance_asking behind awaits r.0) false (begun h.queued behind (woken_if woken w before)) h.left after r.1 h.ends
    (λ b. subst (λ (o : Option A). stance_asking behind awaits o ≢ Sleeps b) (sym is) (looks_awake (looks_behind_answers behind) b)) (ap (λ (s : Sleepers). s.stances) h.noted ∙ asked_same apart r.0 h.left)

-- at the end of the hold of a decision that isn't to be made again, or waits for nothing
module _ {A X : Type 0} (answers : Bool → WorkerId → BookView → A → Type 0) (waits : Bool → WorkerId → BookView → Type 0) (awaits : Option Awaited) (step_of : A → Option X) (kind_of : X → Kind) (makes : X → Making) (fails retries : X → Cause) (w : WorkerId) where
  decision_awake : (queued : Queued) (old new : BookView) (c : Came (Decided A)) → Leaves (DecideGives (AnswersWith queued answers) step_of kind_of makes fails retries) (WaitsWith queued waits) (HadStep (AnswersWith queued answers) step_of) w old new c → (s left after : Sleepers) (wakes : Wakes)
      → EndsDecision new w awaits step_of kind_of s left wakes c → (c ≡ came.Again → awaits ≡ None) → after.stances ≡ left.stances → IsAwake w after
  decision_awake queued old new (came.Done (decided.Answered a)) l s left after wakes e none same = held_awake new w (looks_if (looks_behind_answers s.behind)) false s left after wakes e (looks_awake (looks_behind_answers s.behind)) same
  decision_awake queued old new (came.Done (decided.Entered a true)) l s left after wakes e none same =
      held_awake new w (stance_entered s.behind (kind_of l.step) true) true s left after wakes
      (subst (λ (o : Option X). IfSome o (λ x. EndsHold new w (stance_entered s.behind (kind_of x) true) true s left wakes)) l.is e) (entered_awake s.behind (kind_of l.step) true) same
  decision_awake queued old new (came.Done (decided.Entered a false)) l s left after wakes e none same =
      held_awake new w (stance_entered s.behind (kind_of l.step) false) true s left after wakes
      (subst (λ (o : Option X). IfSome o (λ x. EndsHold new w (stance_entered s.behind (kind_of x) false) true s left wakes)) l.is e) (entered_awake s.behind (kind_of l.step) false) same
  decision_awake queued old new (came.Done (decided.Waiting a)) l s left after wakes e none same = held_awake new w Away false s left after wakes e (looks_awake false) same
  decision_awake queued old new came.NoMemory l s left after wakes e none same = held_awake new w Away false s left after wakes e (looks_awake false) same
  decision_awake queued old new came.Again l s left after wakes e none same =
      held_awake new w Away false s left after wakes (subst (λ (o : Option Awaited). EndsHold new w (stance_waiting o) false s left wakes) (none refl) e) (looks_awake false) same

  pub decided_awake : (tells : Telling) (behind : Then) (woken apart : Bool) (old new : BookView) (part : WorkerPart) (before after : Sleepers) (r : Came (Decided A) × Wakes)
      → HasDecidedHeld answers waits awaits step_of kind_of makes fails retries tells w behind woken apart old new part before after r → (r.0 ≡ came.Again → awaits ≡ None) → IsAwake w after
  decided_awake tells behind woken apart old new part before after r h none =
      decision_awake h.queued old new r.0 h.decided.leaves (begun h.queued behind (woken_if woken w before)) h.left after r.1 h.ends none (ap (λ (s : Sleepers). s.stances) h.noted ∙ decided_same apart r.0 h.left)
