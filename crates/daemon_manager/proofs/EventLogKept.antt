-- What is kept of each daemon, after one event more.
use Rattle.std.proofs.Common.{◌≡◌, ◌≢◌, ◌⊎◌, ℕ, zero, suc, ◌+◌, ◌<◌, ◌≤◌, Bool, false, List, [], ◌∷◌, ◌++◌, length, get_or, set, Option, Some, None, is_some, refl, sym, ap, ◌∙◌, subst, inl, inr, arith, slice_get, IsSomeAnd, length-append}
use Rattle.std.specs.Prelude.{IsTrue, ◌↔◌}
use Rattle.std.specs.List.{sum_by}
use Rattle.std.proofs.lemmas.Bool.{true≢false, cases_eq}
use Rattle.std.proofs.lemmas.List.{length-set}
use Rattle.std.proofs.lemmas.List.Sums.{sum_by-set, sum_by-le, sum_by-append, sum_by-cons, get_or-le-sum_by}
use Rattle.std.proofs.lemmas.Option.{slice_get_within, slice_get_cases, get_or_from_slice_get, slice_get_past}
use Rattle.daemon_requirements.specs.RequirementsView.{RequirementsView}
use Rattle.daemon_manager.specs.declared.events.Event.{Event}
use Rattle.daemon_manager.specs.declared.events.Event.TheVariants.{Started, Reserved}
use Rattle.daemon_manager.specs.declared.events.DaemonState.{DaemonState}
use Rattle.daemon_manager.specs.declared.events.DaemonState.TheVariants.{Busy, Idle, Failed as HasFailed, Stopped as IsStopped}
use Rattle.daemon_manager.specs.declared.event_log.Daemon.{Daemon}
use Rattle.daemon_manager.specs.Events.{daemon_of, state_after, started_with, started, DaemonView, pool}
use Rattle.daemon_manager.specs.EventLogView.{IsEventLog, IsKept, one_if_busy}
use Rattle.daemon_manager.proofs.Order.{Some-is}
use Rattle.daemon_manager.proofs.lemmas.Appending.{started_same, started_more, push_front, push_last, push_other, pool_other, pool_same, pool_before, pool_next, was_started}

pub None-is-not : {X : Type 0} {x : X} → None ≡ Some x → ⊥
None-is-not e = true≢false (sym (ap is_some e))

pub at_most_one : (s : DaemonState) → one_if_busy s ≤ 1
at_most_one Busy = omega arith
at_most_one Idle = omega arith
at_most_one HasFailed = omega arith
at_most_one IsStopped = omega arith

module _ {X : Type 0} where
  set_there : (xs : List X) (i : ℕ) (x y : X) → slice_get xs i ≡ Some x → slice_get (set xs i y) i ≡ Some y
  set_there [] i x y there = absurd (None-is-not there)
  set_there (z ∷ zs) zero x y there = refl
  set_there (z ∷ zs) (suc i) x y there = set_there zs i x y there

  set_elsewhere : (xs : List X) (i j : ℕ) (y : X) → j ≢ i → slice_get (set xs i y) j ≡ slice_get xs j
  set_elsewhere [] i j y other = refl
  set_elsewhere (z ∷ zs) zero zero y other = absurd (other refl)
  set_elsewhere (z ∷ zs) zero (suc j) y other = refl
  set_elsewhere (z ∷ zs) (suc i) zero y other = refl
  set_elsewhere (z ∷ zs) (suc i) (suc j) y other = set_elsewhere zs i j y (λ e. other (ap suc e))

  set_the_same : (xs : List X) (i : ℕ) (x : X) → slice_get xs i ≡ Some x → set xs i x ≡ xs
  set_the_same [] i x there = absurd (None-is-not there)
  set_the_same (z ∷ zs) zero x there = ap (λ y. y ∷ zs) (sym (Some-is there))
  set_the_same (z ∷ zs) (suc i) x there = ap (λ ys. z ∷ ys) (set_the_same zs i x there)

module _ (events : List Event) (daemons : List Daemon) (busy : ℕ) (event_log : IsEventLog events daemons busy) where
  pub busy_bound : busy ≤ length daemons
  busy_bound = omega (arith, event_log.busy, sum_by-le (λ daemon. one_if_busy daemon.state) 1 daemons (λ k d within. at_most_one _))

  -- a daemon that was started is kept
  pub known : (d : ℕ) (x : DaemonView) → pool events d ≡ Some x → (y : Daemon) × (slice_get daemons d ≡ Some y) × (y.state ≡ x.state)
  known d x is = at (slice_get_cases daemons d).1
    where
      at : ((y : Daemon) × (d < length daemons) × (slice_get daemons d ≡ Some y) × (get_or daemons d y ≡ y)) ⊎ ((length daemons ≤ d) × (slice_get daemons d ≡ None)) → (y : Daemon) × (slice_get daemons d ≡ Some y) × (y.state ≡ x.state)
      at (inl there) = (there.0, there.2, ap (λ v. v.state) (Some-is (sym (event_log.kept d there.0 there.2).now ∙ is)))
      at (inr past) = absurd (None-is-not (sym (slice_get_past (started events) d (omega (arith, event_log.count, past.0))) ∙ was_started events d x is))

  -- a busy daemon is counted
  pub counted : (d : ℕ) (r : RequirementsView) → pool events d ≡ Some (record { requirements = r; state = Busy }) → 1 ≤ busy
  counted d r is =
      let found = known d _ is in
      let here : one_if_busy (get_or daemons d found.0).state ≡ 1 = ap (λ y. one_if_busy y.state) (get_or_from_slice_get daemons d found.0 found.0 found.1) ∙ ap one_if_busy found.2 in
      omega (arith, here, get_or-le-sum_by (λ daemon. one_if_busy daemon.state) daemons d found.0 (slice_get_within daemons d found.0 found.1), event_log.busy)

  pub known_of : (d : ℕ) (s : DaemonState) → IsSomeAnd (pool events d) (λ x. x.state ≡ s) → (y : Daemon) × (slice_get daemons d ≡ Some y) × (y.state ≡ s)
  known_of d s is = at (pool events d) refl is
    where
      at : (o : Option DaemonView) → pool events d ≡ o → IsSomeAnd o (λ x. x.state ≡ s) → (y : Daemon) × (slice_get daemons d ≡ Some y) × (y.state ≡ s)
      at None e is = absurd is
      at (Some x) e is = let found = known d x e in (found.0, found.1, found.2 ∙ is)

  module _ (e : Event) (d : ℕ) (old : Daemon) (about : daemon_of e ≡ d) (none : started_with e ≡ None) (there : slice_get daemons d ≡ Some old) where
    pub noted_busy : sum_by (λ daemon. one_if_busy daemon.state) (set daemons d (record { started = old.started; state = state_after e })) + one_if_busy old.state ≡ busy + one_if_busy (state_after e)
    noted_busy =
        let within = slice_get_within daemons d old there in
        let changes = sum_by-set (λ daemon. one_if_busy daemon.state) daemons d (record { started = old.started; state = state_after e }) old within in
        let here : get_or daemons d old ≡ old = get_or_from_slice_get daemons d old old there in
        omega (arith, changes, ap (λ y. one_if_busy y.state) here, event_log.busy)

    pub noted : (count : ℕ) → count + one_if_busy old.state ≡ busy + one_if_busy (state_after e)
        → IsEventLog (events ++ e ∷ []) (set daemons d (record { started = old.started; state = state_after e })) count
    noted count sums = record {
      count = length-set daemons d _ ∙ event_log.count ∙ ap length (sym (started_same events e none));
      kept = λ j x is. at j x is (cases_eq j d);
      busy = omega (arith, sums, noted_busy);
    }
      where
        at : (j : ℕ) (x : Daemon) → slice_get (set daemons d (record { started = old.started; state = state_after e })) j ≡ Some x → (j ≡ d) ⊎ (j ≡ d → ⊥) → IsKept (events ++ e ∷ []) j x
        at j x is (inl same) =
            let kept = event_log.kept d old there in
            let x_is : record { started = old.started; state = state_after e } ≡ x = Some-is (sym (set_there daemons d old _ there) ∙ ap (λ k. slice_get (set daemons d (record { started = old.started; state = state_after e })) k) (sym same) ∙ is) in
            subst (λ k. IsKept (events ++ e ∷ []) k x) (sym same) (subst (λ y. IsKept (events ++ e ∷ []) d y) x_is (record {
              requirements = kept.requirements;
              start = push_front events e _ old.started kept.start;
              now = pool_same events e d _ none about kept.now;
            }))
        at j x is (inr other) =
            let kept = event_log.kept j x (sym (set_elsewhere daemons d j _ other) ∙ is) in
            record {
              requirements = kept.requirements;
              start = push_front events e _ x.started kept.start;
              now = pool_other events e j none (λ same. other (sym same ∙ about)) ∙ kept.now;
            }

  module _ (r : RequirementsView) (n : ℕ) (next : n ≡ length (started events)) (place : ℕ) (place_is : place ≡ length events) where
    pub started_kept : IsEventLog (events ++ Started n r ∷ []) (daemons ++ record { started = place; state = Busy } ∷ []) (busy + 1)
    started_kept = record {
      count = length-append daemons _ ∙ ap (λ k. k + 1) event_log.count ∙ sym (length-append (started events) (r ∷ [])) ∙ ap length (sym (started_more events (Started n r)));
      kept = λ j x is. at j x is (cases_eq j (length daemons));
      busy = omega (arith, event_log.busy, sum_by-append {X = Daemon} (λ daemon. one_if_busy daemon.state) daemons (record { started = place; state = Busy } ∷ []), sum_by-cons {X = Daemon} (λ daemon. one_if_busy daemon.state) (record { started = place; state = Busy }) []);
    }
      where
        at : (j : ℕ) (x : Daemon) → slice_get (daemons ++ record { started = place; state = Busy } ∷ []) j ≡ Some x → (j ≡ length daemons) ⊎ (j ≡ length daemons → ⊥) → IsKept (events ++ Started n r ∷ []) j x
        at j x is (inl same) =
            let x_is : record { started = place; state = Busy } ≡ x = Some-is (sym (push_last daemons _) ∙ ap (λ k. slice_get (daemons ++ record { started = place; state = Busy } ∷ []) k) (sym same) ∙ is) in
            let j_is : length (started events) ≡ j = sym event_log.count ∙ sym same in
            subst (λ k. IsKept (events ++ Started n r ∷ []) k x) j_is (subst (λ y. IsKept (events ++ Started n r ∷ []) (length (started events)) y) x_is (record {
              requirements = r;
              start = ap (λ k. slice_get (events ++ Started n r ∷ []) k) place_is ∙ push_last events (Started n r) ∙ ap (λ k. Some (Started k r)) next;
              now = ap (λ k. pool (events ++ Started k r ∷ []) (length (started events))) next ∙ pool_next events r;
            }))
        at j x is (inr other) =
            let kept = event_log.kept j x (sym (push_other daemons _ j other) ∙ is) in
            record {
              requirements = kept.requirements;
              start = push_front events _ _ x.started kept.start;
              now = ap (λ k. pool (events ++ Started k r ∷ []) j) next ∙ pool_before events r j (λ e. other (e ∙ sym event_log.count)) ∙ kept.now;
            }

module _ (events : List Event) (d : ℕ) (y : Daemon) (kept : IsKept events d y) where
  pub busy_with : (event : Event) (r : RequirementsView) (b : Bool) → y.state ≡ Busy → event ≡ get_or events y.started event → (IsTrue b ↔ (started_with event ≡ Some r))
      → IsTrue b ↔ (pool events d ≡ Some (record { requirements = r; state = Busy }))
  busy_with event r b busy at same = (
    λ t. kept.now ∙ ap (λ (v : DaemonView). Some v) (both (Some-is (sym is ∙ same.0 t)) busy),
    λ p. same.1 (is ∙ ap (λ (v : DaemonView). Some v.requirements) (Some-is (sym kept.now ∙ p))),
  )
    where
      is : started_with event ≡ Some kept.requirements
      is = ap started_with (at ∙ get_or_from_slice_get events y.started _ event kept.start)

      both : {q r : RequirementsView} {s t : DaemonState} → q ≡ r → s ≡ t → ◌≡◌ {A = DaemonView} (record { requirements = q; state = s }) (record { requirements = r; state = t })
      both e f = λ i. record { requirements = e i; state = f i }

  pub not_busy : (r : RequirementsView) (b : Bool) → b ≡ false → (y.state ≡ Busy → ⊥) → IsTrue b ↔ (pool events d ≡ Some (record { requirements = r; state = Busy }))
  not_busy r b is_false other = (
    λ t. absurd (true≢false (sym t ∙ is_false)),
    λ p. absurd (other (ap (λ (v : DaemonView). v.state) (Some-is (sym kept.now ∙ p)))),
  )

pub unknown : (events : List Event) (daemons : List Daemon) (busy d : ℕ) (r : RequirementsView) → IsEventLog events daemons busy → length daemons ≤ d → IsTrue false ↔ (pool events d ≡ Some (record { requirements = r; state = Busy }))
unknown events daemons busy d r event_log past = (
  λ t. absurd (true≢false (sym t)),
  λ p. let found = known events daemons busy event_log d _ p in absurd (omega (arith, past, slice_get_within daemons d found.0 found.1)),
)

-- the start of the next daemon, and its reservation
pub started_reserved : (events : List Event) (daemons : List Daemon) (busy : ℕ) (r : RequirementsView) (u place : ℕ) → IsEventLog events daemons busy → place ≡ length events
    → IsEventLog ((events ++ Started (length daemons) r ∷ []) ++ Reserved (length daemons) u ∷ []) (daemons ++ record { started = place; state = Busy } ∷ []) (busy + 1)
started_reserved events daemons busy r u place event_log place_is =
    let n = length daemons in
    let once = started_kept events daemons busy event_log r n event_log.count place place_is in
    let there = push_last daemons (record { started = place; state = Busy }) in
    subst (λ ds. IsEventLog ((events ++ Started n r ∷ []) ++ Reserved n u ∷ []) ds (busy + 1)) (set_the_same _ n _ there)
    (noted (events ++ Started n r ∷ []) _ (busy + 1) once (Reserved n u) n (record { started = place; state = Busy }) refl refl there (busy + 1) refl)
