-- Whom the ends of a turn's holds wake.
use Rattle.std.proofs.Common.{◌≡◌, ◌≢◌, ◌<◌, ◌⊎◌, ◌++◌, ◌∷◌, ◌∙◌, [], Bool, ◌||◌, true, false, inl, inr, List, Result, Ok, Err, Option, Some, None, IfSome, refl, sym, ap, subst, arith, length, length-append}
use Rattle.lock_journal.specs.Names.{WorkerId, BookView, Entry, entry, Kind, Disposition, Finished, Retry}
use Rattle.lock_transforms.specs.declared.transforms.Disposition.TheVariants.{Failed}
use Rattle.lock_journal.proofs.Adding.{last_at}
use Rattle.worker_choices.specs.GoingOn.{any_lets_go_on, entry_lets_go_on, last_lets_go_on}
use Rattle.worker_choices.specs.declared.awaited.Awaited.{Awaited}
use Rattle.worker_choices.specs.Stances.{asleep, sleeps}
use Rattle.worker_choices.specs.declared.stances.Stance.{Stance}
use Rattle.worker_choices.specs.declared.stances.Stance.TheVariants.{Away}
use Rattle.coordination.specs.declared.decisions.Decided.{Decided}
use Rattle.coordination.specs.declared.decisions.Decided.TheVariants as decided
use Rattle.worker_notes.specs.declared.parts.WorkerPart.{WorkerPart}
use Rattle.worker_notes.specs.declared.sleepers.Sleepers.{Sleepers}
use Rattle.worker_notes.specs.declared.sleepers.Wakes.{Wakes}
use Rattle.coordination.specs.declared.turns.Came.{Came}
use Rattle.coordination.specs.declared.turns.Came.TheVariants as came
use Rattle.coordination.specs.Attempts.{Cause, HasAsked, HasHeld, HasRunFirst, Making, Ran}
use Rattle.coordination.specs.Decisions.{DecideGives, EndsDecision, HadStep, HasDecidedHeld, noted_deciding, stance_entered}
use Rattle.worker_notes.specs.Offered.{AnswersWith, AreTold, Telling, TellsQueued, WaitsWith}
use Rattle.worker_notes.specs.declared.outside_work.Queued.{Queued}
use Rattle.worker_notes.specs.declared.sleepers.Then.{Then}
use Rattle.worker_notes.specs.declared.sleepers.Then.TheVariants.{Leaves as ThenLeaves}
use Rattle.worker_notes.specs.SleepAndWake.{EndsHold, GoesOn, HasGoneOn, HasWoken, begun, comes_again, entries_let_go_on, has_entered, looks_behind_answers, looks_if, noted_after, noted_asking, stance_after, stance_asking, stance_waiting, woken_if}
use Rattle.coordination.specs.Turns.{Leaves}

-- one entry more
longer : (old new : BookView) (e : Entry) → new.history ≡ old.history ++ e ∷ [] → length old.history < length new.history
longer old new e is = omega (arith, ap (λ (h : List Entry). length h) is, length-append old.history (e ∷ []))

-- whoever slept still does
pub record SleepOn (s s' : Sleepers) : Type 0 where
  pub stances : s'.stances ≡ s.stances
  pub transforms : s.transforms ≡ true → s'.transforms ≡ true
  pub questions : s.questions ≡ true → s'.questions ≡ true

on_same : (s : Sleepers) → SleepOn s s
on_same s = record { stances = refl; transforms = λ is. is; questions = λ is. is }

on_after : {E : Type 0} (b : Bool) (r : Result Disposition E) (s : Sleepers) → SleepOn s (noted_after b r s)
on_after b (Ok Finished) s = on_same s
on_after b (Ok Failed) s = on_same s
on_after true (Ok Retry) s = record { stances = refl; transforms = λ is. refl; questions = λ is. is }
on_after false (Ok Retry) s = on_same s
on_after b (Err e) s = on_same s

looks_no_sleep : (b : Bool) → sleeps (looks_if b) ≡ false
looks_no_sleep true = refl
looks_no_sleep false = refl

-- a transform leaves nobody asleep in its stance
after_no_sleep : {E : Type 0} (behind : Then) (kind : Kind) (r : Result Disposition E) → sleeps (stance_after behind kind r) ≡ false
after_no_sleep behind kind (Ok Finished) = looks_no_sleep (comes_again behind kind)
after_no_sleep behind kind (Ok Failed) = looks_no_sleep (looks_behind_answers behind)
after_no_sleep behind kind (Ok Retry) = refl
after_no_sleep behind kind (Err e) = refl

-- where items waited, or that nobody slept, nobody was woken and the worker doesn't sleep
abbrev pub ToldOrAwake : Telling → Queued → Bool → Stance → Sleepers → Type 0
ToldOrAwake tells queued woken stance s = ((asleep s.stances ≡ 0) × (woken ≡ false) × (sleeps stance ≡ false)) ⊎ TellsQueued tells queued

on_asking : {A : Type 0} (apart : Bool) (r : Option A) (s : Sleepers) → SleepOn s (noted_asking apart r s)
on_asking false None s = record { stances = refl; transforms = λ is. is; questions = λ is. refl }
on_asking true None s = on_same s
on_asking false (Some a) s = on_same s
on_asking true (Some a) s = on_same s

on_deciding : {C : Type 0} (apart : Bool) (c : Came C) (s : Sleepers) → SleepOn s (noted_deciding apart c s)
on_deciding {C} apart came.Again s = on_asking {A = C} apart None s
on_deciding apart came.NoMemory s = on_same s
on_deciding apart (came.Done c) s = on_same s

module _ (tells : Telling) (w : WorkerId) (behind : Then) where
  -- the end of a hold that made an entry, and of one that made none
  entered_woken : (old new : BookView) (s s' : Sleepers) (wakes : Wakes) (queued : Queued) (woken : Bool) (stance : Stance) → ToldOrAwake tells queued woken stance s → (left : Sleepers) → length old.history < length new.history
      → EndsHold new w stance true (begun queued behind (woken_if woken w s)) left wakes → SleepOn left s' → HasWoken tells w behind old new s s' wakes
  entered_woken old new s s' wakes queued woken stance told left more ends on = record {
    queued = queued;
    woken = woken;
    stance = stance;
    told = told;
    entered = true;
    made = λ is. more;
    unmade = λ is. absurd (cc);
    left = left;
    ends = ends;
    stances = on.stances;
    transforms = on.transforms;
    questions = on.questions;
  }

  quiet_woken : (old new : BookView) (s s' : Sleepers) (wakes : Wakes) (queued : Queued) (woken : Bool) (stance : Stance) → ToldOrAwake tells queued woken stance s → (left : Sleepers) → new.history ≡ old.history
      → EndsHold new w stance false (begun queued behind (woken_if woken w s)) left wakes → SleepOn left s' → HasWoken tells w behind old new s s' wakes
  quiet_woken old new s s' wakes queued woken stance told left same ends on = record {
    queued = queued;
    woken = woken;
    stance = stance;
    told = told;
    entered = false;
    made = λ is. absurd (cc);
    unmade = λ is. same;
    left = left;
    ends = ends;
    stances = on.stances;
    transforms = on.transforms;
    questions = on.questions;
  }

  told_after : {E : Type 0} (s : Sleepers) (queued : Queued) (kind : Kind) (r : Result Disposition E) → (asleep s.stances ≡ 0) ⊎ TellsQueued tells queued → ToldOrAwake tells queued false (stance_after behind kind r) s
  told_after s queued kind r (inl none) = inl (none, refl, after_no_sleep behind kind r)
  told_after s queued kind r (inr told) = inr told

  ran_woken : {E : Type 0} (kind : Kind) (makes : Making) (fails retries : Cause) (old new : BookView) (s s' : Sleepers) (r : Result Disposition E) (wakes : Wakes) (queued : Queued) → (asleep s.stances ≡ 0) ⊎ TellsQueued tells queued → (left : Sleepers)
      → Ran kind makes fails retries w old new r → EndsHold new w (stance_after behind kind r) (has_entered r) (begun queued behind s) left wakes → SleepOn left s' → HasWoken tells w behind old new s s' wakes
  ran_woken {E} kind makes fails retries old new s s' (Ok Finished) wakes queued told left ran ends on = entered_woken old new s s' wakes queued false (stance_after {E = E} behind kind (Ok Finished)) (told_after {E = E} s queued kind (Ok Finished) told) left (longer old new _ ran.1.history) ends on
  ran_woken {E} kind makes fails retries old new s s' (Ok Failed) wakes queued told left ran ends on = entered_woken old new s s' wakes queued false (stance_after {E = E} behind kind (Ok Failed)) (told_after {E = E} s queued kind (Ok Failed) told) left (longer old new _ ran.history) ends on
  ran_woken {E} kind makes fails retries old new s s' (Ok Retry) wakes queued told left ran ends on = quiet_woken old new s s' wakes queued false Away (told_after {E = E} s queued kind (Ok Retry) told) left ran.history ends on
  ran_woken {E} kind makes fails retries old new s s' (Err e) wakes queued told left ran ends on = quiet_woken old new s s' wakes queued false Away (told_after {E = E} s queued kind (Err e) told) left ran.history ends on

-- what is told of these offers is told of some
some_told : {O : Type 0} (tells : O → Telling) (offers : O) (s : Sleepers) (queued : Queued) → (asleep s.stances ≡ 0) ⊎ TellsQueued (tells offers) queued → (asleep s.stances ≡ 0) ⊎ TellsQueued (AreTold tells) queued
some_told tells offers s queued (inl none) = inl none
some_told tells offers s queued (inr told) = inr (λ book. (offers, told book))

-- the last entry lets go on where the only new one does
or_nothing : (b : Bool) → (b || false) ≡ b
or_nothing true = refl
or_nothing false = refl

one_lets_go_on : (old new : BookView) (e : Entry) → new.history ≡ old.history ++ e ∷ [] → last_lets_go_on new.history ≡ entries_let_go_on (e ∷ [])
one_lets_go_on old new e is = ap entry_lets_go_on (last_at new.history old.history e is) ∙ sym (or_nothing (any_lets_go_on e.changes))

-- of a transform behind which the hold goes on where it finished
module _ {E : Type 0} (kind : Kind) (makes : Making) (fails retries : Cause) (w : WorkerId) (b : Bool) (old new : BookView) (part : WorkerPart) (s s' : Sleepers) (r : Result Disposition E × Wakes) where
  pub gone_on : (tells : Telling) → HasRunFirst kind makes fails retries tells w b old new part s s' r → r.0 ≡ Ok Finished → HasGoneOn w old new s s' r.1
  gone_on tells h is =
      let ran : Ran {E = E} kind makes fails retries w old new (Ok Finished) = subst (Ran kind makes fails retries w old new) is h.run.ran in
      let e : Entry = entry w kind (Some ran.0) in
      let same : h.left ≡ s' = ap (λ q. noted_after b q h.left) (sym is) ∙ sym h.noted in record {
        queued = h.queued;
        behind = ThenLeaves;
        woken = false;
        more = e ∷ [];
        some = omega arith;
        history = ran.1.history;
        goes = subst (λ (p : Bool × Sleepers). GoesOn p.0 (begun h.queued ThenLeaves s) p.1 r.1) (λ i. (one_lets_go_on old new e ran.1.history i, same i)) (h.run.goes is);
      }

  pub stopped_woken : {O : Type 0} (tells : O → Telling) (offers : O) → HasRunFirst kind makes fails retries (tells offers) w b old new part s s' r → r.0 ≢ Ok Finished → HasWoken (AreTold tells) w ThenLeaves old new s s' r.1
  stopped_woken tells offers h ne =
      ran_woken (AreTold tells) w ThenLeaves kind makes fails retries old new s s' r.0 r.1 h.queued (some_told tells offers s h.queued h.told) h.left h.run.ran (h.run.ends ne) (subst (SleepOn h.left) (sym h.noted) (on_after b r.0 h.left))

module _ {O : Type 0} (tells : O → Telling) (offers : O) (w : WorkerId) (behind : Then) where
  pub run_woken : {E : Type 0} (kind : Kind) (makes : Making) (fails retries : Cause) (b : Bool) (old new : BookView) (part : WorkerPart) (s s' : Sleepers) (r : Result Disposition E × Wakes)
      → HasHeld kind makes fails retries (tells offers) w behind b old new part s s' r → HasWoken (AreTold tells) w behind old new s s' r.1
  run_woken kind makes fails retries b old new part s s' r h =
      ran_woken (AreTold tells) w behind kind makes fails retries old new s s' r.0 r.1 h.queued (some_told tells offers s h.queued h.told) h.left h.run.ran h.run.ends (subst (SleepOn h.left) (sym h.noted) (on_after b r.0 h.left))

  pub asked_woken : {A : Type 0} (answers : Bool → WorkerId → BookView → A → Type 0) (waits : Bool → WorkerId → BookView → Type 0) (awaits : Option Awaited) (woken apart : Bool) (old new : BookView) (s s' : Sleepers) (r : Option A × Wakes) → new ≡ old
      → HasAsked answers waits awaits (tells offers) w behind woken apart old s s' r → HasWoken (AreTold tells) w behind old new s s' r.1
  asked_woken {A} answers waits awaits woken apart old new s s' r same h =
      subst (λ (b : BookView). HasWoken (AreTold tells) w behind old b s s' r.1) (sym same)
      (quiet_woken (AreTold tells) w behind old old s s' r.1 h.queued woken (stance_asking behind awaits r.0) (inr (λ book. (offers, h.told book))) h.left refl h.ends (subst (SleepOn h.left) (sym h.noted) (on_asking apart r.0 h.left)))

  -- the same of a decision
  module _ {A X : Type 0} (answers : Bool → WorkerId → BookView → A → Type 0) (waits : Bool → WorkerId → BookView → Type 0) (awaits : Option Awaited) (step_of : A → Option X) (kind_of : X → Kind) (makes : X → Making) (fails retries : X → Cause)
      (old new : BookView) (s s' : Sleepers) (wakes : Wakes) (queued : Queued) (told : TellsQueued (tells offers) queued) (woken : Bool) (left : Sleepers) (on : SleepOn left s') where
    more_woken : (stance : Stance) → length old.history < length new.history → EndsHold new w stance true (begun queued behind (woken_if woken w s)) left wakes → HasWoken (AreTold tells) w behind old new s s' wakes
    more_woken stance more ends = entered_woken (AreTold tells) w behind old new s s' wakes queued woken stance (inr (λ book. (offers, told book))) left more ends on

    none_woken : (stance : Stance) → new.history ≡ old.history → EndsHold new w stance false (begun queued behind (woken_if woken w s)) left wakes → HasWoken (AreTold tells) w behind old new s s' wakes
    none_woken stance same ends = quiet_woken (AreTold tells) w behind old new s s' wakes queued woken stance (inr (λ book. (offers, told book))) left same ends on

    step_woken : (b : Bool) (step : Option X) (x : X) → step ≡ Some x → length old.history < length new.history
        → IfSome step (λ x. EndsHold new w (stance_entered behind (kind_of x) b) true (begun queued behind (woken_if woken w s)) left wakes) → HasWoken (AreTold tells) w behind old new s s' wakes
    step_woken b step x is more ends =
        more_woken (stance_entered behind (kind_of x) b) more
        (subst (λ (o : Option X). IfSome o (λ x. EndsHold new w (stance_entered behind (kind_of x) b) true (begun queued behind (woken_if woken w s)) left wakes)) is ends)

    decision_woken : (c : Came (Decided A)) → Leaves (DecideGives (AnswersWith queued answers) step_of kind_of makes fails retries) (WaitsWith queued waits) (HadStep (AnswersWith queued answers) step_of) w old new c
        → EndsDecision new w awaits step_of kind_of (begun queued behind (woken_if woken w s)) left wakes c → HasWoken (AreTold tells) w behind old new s s' wakes
    decision_woken (came.Done (decided.Answered a)) l e = none_woken (looks_if (looks_behind_answers behind)) (ap (λ (b : BookView). b.history) l.2) e
    decision_woken (came.Done (decided.Entered a true)) l e = step_woken true (step_of a) l.step l.is (longer old new _ l.left.1.history) e
    decision_woken (came.Done (decided.Entered a false)) l e = step_woken false (step_of a) l.step l.is (longer old new _ l.left.history) e
    decision_woken (came.Done (decided.Waiting a)) l e = none_woken Away l.left.history e
    decision_woken came.NoMemory l e = none_woken Away l.1.history e
    decision_woken came.Again l e = none_woken (stance_waiting awaits) l.1.history e

  pub decided_woken : {A X : Type 0} (answers : Bool → WorkerId → BookView → A → Type 0) (waits : Bool → WorkerId → BookView → Type 0) (awaits : Option Awaited) (step_of : A → Option X) (kind_of : X → Kind) (makes : X → Making) (fails retries : X → Cause)
      (woken apart : Bool) (old new : BookView) (part : WorkerPart) (s s' : Sleepers) (r : Came (Decided A) × Wakes) → HasDecidedHeld answers waits awaits step_of kind_of makes fails retries (tells offers) w behind woken apart old new part s s' r
      → HasWoken (AreTold tells) w behind old new s s' r.1
  decided_woken answers waits awaits step_of kind_of makes fails retries woken apart old new part s s' r h =
      decision_woken answers waits awaits step_of kind_of makes fails retries old new s s' r.1 h.queued h.told woken h.left (subst (SleepOn h.left) (sym h.noted) (on_deciding apart r.0 h.left)) r.0 h.decided.leaves h.ends
