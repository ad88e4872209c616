-- After each lawful history each worker is in place.
use Rattle.std.proofs.Common.{◌≡◌, ◌<◌, ◌⊎◌, ℕ, true, List, [], ◌∷◌, ◌++◌, Option, None, Some, inl, inr, refl, sym, ap, ◌∙◌, subst}
use Rattle.std.specs.Prelude.{IfSome}
use Rattle.std.proofs.lemmas.Bool.{cases_eq}
use Rattle.lock_journal.specs.Names.{Fits, GraphView, task_of, opening_of, Holding, StateView, holding_of, stands_in, Change, LockId, WorkerId}
use Rattle.lock_journal.specs.Names.{Passed, TaskOf, ActionOf, UnitOf, Allowed, Finishes, IsKindOf, Lawful, lawful_from, Entry, changed, effect}
use Rattle.lock_journal.specs.Names.{replay, replay_from, Kind, SameFor}
use Rattle.resource_lock.proofs.lemmas.Runs.{worker_from}
use Rattle.resource_lock.proofs.lemmas.Undo.{same_worker}
use Rattle.lock_journal.proofs.Finished.{IsFinal, final_by}
use Rattle.lock_journal.proofs.Kept.{mark_stays}
use Rattle.lock_journal.proofs.lemmas.Fitting.{apart_of}
use Rattle.lock_journal.proofs.lemmas.Growing.{lawful-push, replay-push}
use Rattle.lock_journal.proofs.lemmas.Named.{belongs, good}
use Rattle.lock_journal.proofs.lemmas.Others.{others_after}
use Rattle.coordination.proofs.Opening.{rests}
use Rattle.worker_notes.proofs.lemmas.FewMarks.{keeps}
use Rattle.single_steps.proofs.TaskEnds.{under_tasks_after}
use Rattle.planned_work.specs.InPlace.{HasLock, HasReleasedTask, IsInPlace}
use Rattle.planned_work.proofs.InPlace.{in_place_after}

-- the entries of others leave it
module _ (g : GraphView) (s s' : StateView) (w : WorkerId) (same : SameFor w s s') (final : IsFinal s s') (before : IsInPlace g s w) where
  same_lock : (l : LockId) → HasLock s w l → HasLock s' w l
  same_lock l (inl own) = inl (same.owns l ∙ own)
  same_lock l (inr parked) = inr (ap (λ (h : Holding). stands_in l h.parked) same.holding ∙ parked)

  same_released : (t : ℕ) → HasReleasedTask g s w t → HasReleasedTask g s' w t
  same_released t r = record {
    lease = ap (λ (h : Holding). h.lease) same.holding ∙ r.lease;
    blocked = ap (λ (h : Holding). h.blocked) same.holding ∙ r.blocked;
    waits = same.is_parked ∙ r.waits;
    action = r.action;
    of_task = r.of_task;
    releases = r.releases;
    passed = mark_stays s s' final (ActionOf r.action) Passed tt r.passed;
  }

  same_task : (t : ℕ) → HasLock s w (task_of g t).lock ⊎ HasReleasedTask g s w t → HasLock s' w (task_of g t).lock ⊎ HasReleasedTask g s' w t
  same_task t (inl has) = inl (same_lock (task_of g t).lock has)
  same_task t (inr r) = inr (same_released t r)

  same_works : (t : ℕ) → ((holding_of s w).lease ≡ true) ⊎ HasReleasedTask g s w t → ((holding_of s' w).lease ≡ true) ⊎ HasReleasedTask g s' w t
  same_works t (inl lease) = inl (ap (λ (h : Holding). h.lease) same.holding ∙ lease)
  same_works t (inr r) = inr (same_released t r)

  still_in_place : IsInPlace g s' w
  still_in_place = record {
    task = λ t runs. same_task t (before.task t ((same.running (TaskOf t)).1 runs));
    works = λ t runs free none. same_works t (before.works t ((same.running (TaskOf t)).1 runs) (ap (λ (h : Holding). h.blocked) (sym same.holding) ∙ free) (sym same.is_parked ∙ none));
    parked = λ free none. ap (λ (h : Holding). h.parked) same.holding ∙ before.parked (ap (λ (h : Holding). h.blocked) (sym same.holding) ∙ free) (sym same.is_parked ∙ none);
    waits = λ a runs.
        let was = before.waits a ((same.running (ActionOf a)).1 runs) in
        (ap (λ (h : Holding). h.blocked) same.holding ∙ was.0, ap (λ (h : Holding). h.parked) same.holding ∙ was.1);
    lease = λ a runs lease. same.runs_unit ∙ before.lease a ((same.running (ActionOf a)).1 runs) (ap (λ (h : Holding). h.lease) (sym same.holding) ∙ lease);
    item = λ u runs free.
        let was = before.item u ((same.running (UnitOf u)).1 runs) (ap (λ (h : Holding). h.blocked) (sym same.holding) ∙ free) in
        (was.0, ap (λ (h : Holding). h.lease) same.holding ∙ was.1);
  }

-- an entry of whomever
module _ (g : GraphView) (h : List Entry) (w : WorkerId) (fits : Fits g) (lawful : Lawful g h) (before : IsInPlace g (replay g h) w) where
  own_entry : (k : Kind) (o : Option (List Change)) → w.0 < g.workers → IsKindOf g k → IfSome o (Finishes g (replay g h) w k) → IsInPlace g (changed (replay g h) w o) w
  own_entry k None low kind f = before
  own_entry k (Some cs) low kind f =
      let there = belongs g h lawful in
      in_place_after g (replay g h) w (apart_of g fits) there (good g h lawful) (worker_from g (replay g h) w there low) (keeps g h w lawful) (under_tasks_after g h fits lawful) before cs k f kind

  final_entry : (v : WorkerId) (k : Kind) (o : Option (List Change)) → IfSome o (Finishes g (replay g h) v k) → IsFinal (replay g h) (changed (replay g h) v o)
  final_entry v k None f = record { kept = λ m ended. refl }
  final_entry v k (Some cs) f = final_by g (replay g h) v k cs f.list f.possible

  in_place_entry : (e : Entry) → Allowed g (replay g h) e → IsInPlace g (effect (replay g h) e) w
  in_place_entry e allowed = elim (cases_eq e.worker.0 w.0) [
    | inl own ↦
        let is : e.worker ≡ w = same_worker e.worker w own in
        subst (λ (v : WorkerId). IsInPlace g (changed (replay g h) v e.changes) w) (sym is)
        (own_entry e.kind e.changes (subst (λ (v : WorkerId). v.0 < g.workers) is allowed.worker) allowed.kind (subst (λ (v : WorkerId). IfSome e.changes (Finishes g (replay g h) v e.kind)) is allowed.finished))
    | inr other ↦ still_in_place g (replay g h) (effect (replay g h) e) w (others_after g (e ∷ []) (replay g h) w (allowed, tt) (other, tt)) (final_entry e.worker e.kind e.changes allowed.finished) before
  ]

-- along a history
goes_on : (g : GraphView) (w : WorkerId) (h past : List Entry) → Fits g → Lawful g past → lawful_from g (replay g past) h → IsInPlace g (replay g past) w → IsInPlace g (replay_from (replay g past) h) w
goes_on g w [] past fits front lawful old = old
goes_on g w (e ∷ h) past fits front lawful old =
    let now : replay g (past ++ e ∷ []) ≡ effect (replay g past) e = replay-push g past e in
    subst (λ (s : StateView). IsInPlace g (replay_from s h) w) now
    (goes_on g w h (past ++ e ∷ []) fits (lawful-push g past e front lawful.0) (subst (λ (s : StateView). lawful_from g s h) (sym now) lawful.1)
    (subst (λ (s : StateView). IsInPlace g s w) (sym now) (in_place_entry g past w fits front old e lawful.0)))

at_first : (g : GraphView) (w : WorkerId) → IsInPlace g (opening_of g) w
at_first g w =
    let rest = rests g in
    record {
      task = λ t runs. absurd (rest.marks w (TaskOf t) runs);
      works = λ t runs free none. absurd (rest.marks w (TaskOf t) runs);
      parked = λ free none. ap (λ (h : Holding). h.parked) (rest.holdings w);
      waits = λ a runs. absurd (rest.marks w (ActionOf a) runs);
      lease = λ a runs lease. absurd (rest.marks w (ActionOf a) runs);
      item = λ u runs free. absurd (rest.marks w (UnitOf u) runs);
    }

pub in_place : (g : GraphView) (h : List Entry) (w : WorkerId) → Fits g → Lawful g h → IsInPlace g (replay g h) w
in_place g h w fits lawful = goes_on g w h [] fits tt lawful (at_first g w)
