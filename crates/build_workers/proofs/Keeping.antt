-- What a part of a worker's run keeps goes on over the next part.
use Rattle.std.proofs.Common.{◌≡◌, ℕ, ◌+◌, ◌-◌, ◌^◌, ◌<◌, ◌≤◌, List, [], ◌∷◌, ◌++◌, Option, Some, None, true, false, Result, Ok, Err, inl, inr, refl, sym, ◌∙◌, ap, subst, arith, cond}
use Rattle.std.specs.Prelude.{IfOk, IfSome, OnErr, OnOk}
use Rattle.std.specs.List.{AllByRecursion}
use Rattle.std.proofs.lemmas.Bool.{eq-eqb}
use Rattle.std.proofs.lemmas.List.Sums.{sum_by-append}
use Rattle.std.proofs.lemmas.List.{append-nil, append_assoc}
use Rattle.item_actions.specs.Files.{Folder}
use Rattle.item_actions.specs.Value.{IsHonest, is_fault}
use Rattle.item_actions.specs.declared.outcomes.Outcome.{Outcome}
use Rattle.item_actions.specs.declared.outcomes.Outcome.TheVariants as outcomes
use Rattle.lock_journal.specs.Names.{WorkerId, BookView, IsFixedList, Entry, entry, Closed, Kind, IsHonestWorker, closed_of, closed_at, closed_by}
use Rattle.lock_journal.specs.Names.{closed_in, faults_by, faults_in}
use Rattle.file_access.specs.SinkView.{Rises}
use Rattle.file_access.proofs.lemmas.Lists.{all_append}
use Rattle.plan_reader.specs.Units.{PlannedUnit}
use Rattle.lock_journal.proofs.lemmas.Growing.{closed_by-push}
use Rattle.coordination.specs.Names.{Finds, Cause, Making, AskedInVain, HasFailed, HasFinished, HasLooked, IsAnswered, WasStopped, HasDecided}
use Rattle.coordination.specs.Names.{IsToWaitIn}
use Rattle.coordination.specs.Calls.{HasStopped}
use Rattle.coordination.specs.declared.decisions.Decided.{Decided}
use Rattle.coordination.specs.declared.decisions.Decided.TheVariants as decided
use Rattle.coordination.specs.declared.halts.Halt.{Halt}
use Rattle.coordination.specs.declared.rule.Sight.{Sight}
use Rattle.async_tracker.specs.WorkSteps.{FailsAt, RetriesAt, kind_of_work}
use Rattle.async_tracker.specs.declared.work_steps.WorkStep.{WorkStep}
use Rattle.async_tracker.specs.declared.work_steps.WorkStep.TheVariants as steps
use Rattle.build_workers.specs.Kept.{HasClosed, Keeps}
use Rattle.build_workers.specs.Units.{given}

-- the pass has seen a book that it found, or heard of a stop besides
seen_closes : {old new : Sight} (book : BookView) → Finds old.worker old.seen book → new.worker ≡ old.worker → new.seen ≡ book → HasClosed [] old new
seen_closes {old} {new} book found worker seen = record {
  worker = worker;
  graph = ap (λ (b : BookView). b.graph) seen ∙ found.agrees.graph;
  closed = ap (λ (b : BookView). closed_by old.worker b.history) seen ∙ (found.agrees.closings ∙ sym (append-nil (closed_by old.worker old.seen.history)));
}

pub looked_closes : {old new : Sight} → HasLooked old new → HasClosed [] old new
looked_closes f = seen_closes f.book f.found (ap (λ (k : Sight). k.worker) f.sight) (ap (λ (k : Sight). k.seen) f.sight)

pub stopped_closes : {cause : Cause} {by : WorkerId} {old new : Sight} → WasStopped cause by old new → HasClosed [] old new
stopped_closes f = seen_closes f.book f.found (ap (λ (k : Sight). k.worker) f.sight) (ap (λ (k : Sight). k.seen) f.sight)

pub answered_closes : {A : Type 0} {answers : WorkerId → BookView → A → Type 0} {a : A} {old new : Sight} → IsAnswered answers a old new → HasClosed [] old new
answered_closes f = seen_closes f.book f.found (ap (λ (k : Sight). k.worker) f.sight) (ap (λ (k : Sight). k.seen) f.sight)

pub in_vain_closes : {waits : WorkerId → BookView → Type 0} {by : WorkerId} {old new : Sight} → AskedInVain waits by old new → HasClosed [] old new
in_vain_closes f = seen_closes f.book f.found (ap (λ (k : Sight). k.worker) f.sight) (ap (λ (k : Sight). k.seen) f.sight)

pub stop_closes : {old new : Sight} → HasStopped old new → HasClosed [] old new
stop_closes {old} {new} (inl is) = record {
  worker = ap (λ (k : Sight). k.worker) is;
  graph = ap (λ (k : Sight). k.seen.graph) is;
  closed = ap (λ (k : Sight). closed_by old.worker k.seen.history) is ∙ sym (append-nil (closed_by old.worker old.seen.history));
}
stop_closes {old} {new} (inr (by, known, is)) = record {
  worker = ap (λ (k : Sight). k.worker) is;
  graph = ap (λ (k : Sight). k.seen.graph) is;
  closed = ap (λ (k : Sight). closed_by old.worker k.seen.history) is ∙ sym (append-nil (closed_by old.worker old.seen.history));
}

-- what the worker's own entry closes
own_closes : (w : WorkerId) (e : Entry) → e.worker ≡ w → closed_at w e ≡ closed_in e.changes e.kind
own_closes w e is = rw (eq-eqb e.worker.0 w.0 (ap (λ (v : WorkerId). v.0) is)) refl

pub finished_closes : {kind : Kind} {makes : Making} {old new : Sight} → HasFinished kind makes old new → HasClosed (closed_of kind) old new
finished_closes {kind} {makes} {old} {new} f =
    let w : WorkerId = old.worker in
    let e : Entry = entry w kind (Some f.changes) in record {
      worker = ap (λ (k : Sight). k.worker) f.sight;
      graph = ap (λ (k : Sight). k.seen.graph) f.sight ∙ (f.graph ∙ f.found.agrees.graph);
      closed =
          ap (λ (k : Sight). closed_by w k.seen.history) f.sight
          ∙ (ap (closed_by w) f.finished.history
          ∙ (closed_by-push f.before.history e w
          ∙ (ap (λ ds. ds ++ closed_at w e) f.found.agrees.closings
          ∙ ap (λ ds. closed_by w old.seen.history ++ ds) (own_closes w e refl))));
    }

pub failed_closes : {kind : Kind} {fails : Cause} {old new : Sight} → HasFailed kind fails old new → HasClosed [] old new
failed_closes {kind} {fails} {old} {new} f =
    let w : WorkerId = old.worker in
    let e : Entry = entry w kind None in record {
      worker = ap (λ (k : Sight). k.worker) f.sight;
      graph = ap (λ (k : Sight). k.seen.graph) f.sight ∙ (f.graph ∙ f.found.agrees.graph);
      closed =
          ap (λ (k : Sight). closed_by w k.seen.history) f.sight
          ∙ (ap (closed_by w) f.failed.history
          ∙ (closed_by-push f.before.history e w
          ∙ (ap (λ ds. ds ++ closed_at w e) f.found.agrees.closings
          ∙ ap (λ ds. closed_by w old.seen.history ++ ds) (own_closes w e refl))));
    }

-- no step of what is next closes a unit
work_closes : {makes : Making} {old new : Sight} (step : WorkStep) → HasFinished (kind_of_work step) makes old new → HasClosed [] old new
work_closes (steps.Start t) f = finished_closes f
work_closes (steps.Skip t) f = finished_closes f
work_closes (steps.Claim u) f = finished_closes f
work_closes (steps.Resume a) f = finished_closes f
work_closes (steps.Fetch u) f = finished_closes f
work_closes (steps.Submit a) f = finished_closes f
work_closes (steps.Park a) f = finished_closes f
work_closes (steps.End t) f = finished_closes f

-- nor one that is to be run again
waiting_closes : {A X : Type 0} {answers : WorkerId → BookView → A → Type 0} {step_of : A → Option X} {retries : X → Cause} {a : A} {old new : Sight} → IsToWaitIn answers step_of retries old new a → HasClosed [] old new
waiting_closes {old = old} {new} k = record {
  worker = ap (λ (s : Sight). s.worker) k.sight;
  graph = ap (λ (s : Sight). s.seen.graph) k.sight ∙ (k.graph ∙ k.found.agrees.graph);
  closed =
      ap (λ (s : Sight). closed_by old.worker s.seen.history) k.sight
      ∙ (ap (closed_by old.worker) k.unchanged.history
      ∙ (k.found.agrees.closings ∙ sym (append-nil (closed_by old.worker old.seen.history))));
}

-- what was decided closes nothing
pub decided_closes : {A : Type 0} (answers : WorkerId → BookView → A → Type 0) (step_of : A → Option WorkStep) {old new : Sight} (d : Decided A)
    → HasDecided answers step_of kind_of_work (λ x. IsFixedList (kind_of_work x)) FailsAt RetriesAt old new d → HasClosed [] old new
decided_closes answers step_of (decided.Answered a) h = answered_closes h.0
decided_closes answers step_of (decided.Entered a true) h = work_closes h.step h.finished
decided_closes answers step_of (decided.Entered a false) h = failed_closes h.failed
decided_closes answers step_of (decided.Waiting a) h = waiting_closes h

-- nor does a decision that came to nothing
pub deciding_closes : {A : Type 0} (answers : WorkerId → BookView → A → Type 0) (step_of : A → Option WorkStep) {old new : Sight} (r : Result (Decided A) Halt)
    → IfOk r (HasDecided answers step_of kind_of_work (λ x. IsFixedList (kind_of_work x)) FailsAt RetriesAt old new) → OnErr r (HasClosed [] old new) → HasClosed [] old new
deciding_closes answers step_of (Ok d) done still = decided_closes answers step_of d done
deciding_closes answers step_of (Err e) done still = still

-- one after the other
pub closes_then : {ds es : List Closed} {a b c : Sight} → HasClosed ds a b → HasClosed es b c → HasClosed (ds ++ es) a c
closes_then {ds} {es} {a} {b} {c} k l = record {
  worker = l.worker ∙ k.worker;
  graph = l.graph ∙ k.graph;
  closed =
      subst (λ w. closed_by w c.seen.history ≡ closed_by w b.seen.history ++ es) k.worker l.closed
      ∙ (ap (λ xs. xs ++ es) k.closed ∙ append_assoc (closed_by a.worker a.seen.history) ds es);
}

-- no unit was closed
pub keeps_still : (known : Option Folder) (units : List PlannedUnit) (n : ℕ) {old new : Sight} → HasClosed [] old new → Keeps known units n n old new
keeps_still known units n {old} {new} closed = record {
  worker = closed.worker;
  graph = closed.graph;
  count = omega arith;
  faults = λ lt. omega (arith, ap faults_in e);
  honest = at known;
}
  where
    e : closed_by old.worker new.seen.history ≡ closed_by old.worker old.seen.history
    e = closed.closed ∙ append-nil (closed_by old.worker old.seen.history)

    at : (o : Option Folder) → IfSome o (λ files. IsHonestWorker (given units files) old.seen.history old.worker → IsHonestWorker (given units files) new.seen.history old.worker)
    at None = tt
    at (Some files) = λ honest. subst (AllByRecursion (λ d. IsHonest d.outcome (given units files d.unit))) (sym e) honest

-- one part after the other
pub keeps_then : (known : Option Folder) (units : List PlannedUnit) (a b c : ℕ) {r s t : Sight} → Keeps known units a b r s → Keeps known units b c s t → Keeps known units a c r t
keeps_then known units a b c {r} {s} {t} k l = record {
  worker = l.worker ∙ k.worker;
  graph = l.graph ∙ k.graph;
  count = let x = k.count in let y = l.count in omega arith;
  faults = λ lt. let y = l.count in let x = k.faults (omega arith) in let z = subst (λ w. faults_by w t.seen.history + b ≤ faults_by w s.seen.history + c) k.worker (l.faults lt) in omega arith;
  honest = at known k.honest l.honest;
}
  where
    at : (o : Option Folder) → IfSome o (λ files. IsHonestWorker (given units files) r.seen.history r.worker → IsHonestWorker (given units files) s.seen.history r.worker) → IfSome o (λ files. IsHonestWorker (given units files) s.seen.history s.worker → IsHonestWorker (given units files) t.seen.history s.worker) → IfSome o (λ files. IsHonestWorker (given units files) r.seen.history r.worker → IsHonestWorker (given units files) t.seen.history r.worker)
    at None p q = tt
    at (Some files) p q = λ honest. subst (λ w. IsHonestWorker (given units files) t.seen.history w) k.worker (q (subst (λ w. IsHonestWorker (given units files) s.seen.history w) (sym k.worker) (p honest)))

-- a fault is counted, as far as the count goes
counted : (d : Closed) (before after : ℕ) → (d.outcome ≡ outcomes.Fault → Rises before after) → before ≤ after → after < 2 ^ 64 - 1 → faults_in (d ∷ []) + before ≤ after
counted d before after rises le lt = at d.outcome refl
  where
    none : (o : Outcome) → is_fault o ≡ false → 0 + cond (is_fault o) 1 0 + before ≤ after
    none o e = rw e (omega arith)

    at : (o : Outcome) → d.outcome ≡ o → 0 + cond (is_fault o) 1 0 + before ≤ after
    at outcomes.Fault e = let r = rises e in omega arith
    at (outcomes.Number n) e = none (outcomes.Number n) refl
    at (outcomes.Digest b) e = none (outcomes.Digest b) refl
    at outcomes.NotThere e = none outcomes.NotThere refl
    at outcomes.TooLong e = none outcomes.TooLong refl
    at outcomes.NoMemory e = none outcomes.NoMemory refl
    at outcomes.Skipped e = none outcomes.Skipped refl

-- one unit was closed, with an outcome that came while the desk's count went from before to after
pub keeps_closed : (known : Option Folder) (units : List PlannedUnit) (before after : ℕ) (d : Closed) {old new : Sight} → HasClosed (d ∷ []) old new → before ≤ after → (d.outcome ≡ outcomes.Fault → Rises before after) → IfSome known (λ files. IsHonest d.outcome (given units files d.unit)) → Keeps known units before after old new
keeps_closed known units before after d {old} {new} closed le rises honest = record {
  worker = closed.worker;
  graph = closed.graph;
  count = le;
  faults = λ lt. let f = counted d before after rises le lt in omega (arith, ap faults_in closed.closed, sum_by-append (λ (x : Closed). cond (is_fault x.outcome) 1 0) (closed_by old.worker old.seen.history) (d ∷ []));
  honest = at known honest;
}
  where
    at : (o : Option Folder) → IfSome o (λ files. IsHonest d.outcome (given units files d.unit)) → IfSome o (λ files. IsHonestWorker (given units files) old.seen.history old.worker → IsHonestWorker (given units files) new.seen.history old.worker)
    at None p = tt
    at (Some files) p = λ was. subst (AllByRecursion (λ x. IsHonest x.outcome (given units files x.unit))) (sym closed.closed) (all_append (λ x. IsHonest x.outcome (given units files x.unit)) (closed_by old.worker old.seen.history) (d ∷ []) was (p, tt))

-- whatever a call answers that gives a value where its transform finishes, no unit was closed, where that transform closes none
pub gave_closes : {T : Type 0} {retries : Cause} {old new : Sight} (kind : Kind) (makes : Making) (r : Result T Halt) → closed_of kind ≡ []
    → OnOk r (HasFinished kind makes old new) → (r ≡ Err Halt.NoMemory → HasLooked old new) → ((by : WorkerId) → r ≡ Err (Halt.Stopped by) → WasStopped retries by old new)
    → HasClosed [] old new
gave_closes {old = old} {new} kind makes (Ok x) none finished looked stopped = subst (λ ds. HasClosed ds old new) none (finished_closes finished)
gave_closes kind makes (Err Halt.NoMemory) none finished looked stopped = looked_closes (looked refl)
gave_closes kind makes (Err (Halt.Stopped by)) none finished looked stopped = stopped_closes (stopped by refl)

-- no unit was closed, while the count rose
pub keeps_risen : (known : Option Folder) (units : List PlannedUnit) (before after : ℕ) {old new : Sight} → HasClosed [] old new → before ≤ after → Keeps known units before after old new
keeps_risen known units before after closed le =
    let still = keeps_still known units before closed in record {
      worker = still.worker;
      graph = still.graph;
      count = le;
      faults = λ lt. let f = still.faults (omega arith) in omega arith;
      honest = still.honest;
    }

pub some_or_none : {X : Type 0} (o : Option X) (x : X) → Some x ≡ o → o ≡ None → ⊥
some_or_none None x some none = absurd (cc)
some_or_none (Some y) x some none = absurd (cc)
