-- What legal events say of a daemon.
use Rattle.std.proofs.Common.{◌≡◌, ◌≢◌, ◌⊎◌, ℕ, zero, suc, ◌<◌, ◌||◌, Bool, true, false, cond, List, [], ◌∷◌, ◌++◌, length, get_or, Option, Some, None, refl, sym, ap, ◌∙◌, subst, inl, inr, arith, append_assoc, slice_get, All, IsSomeAnd, Contains}
use Rattle.std.specs.List.{cons_option, list_any, fold}
use Rattle.std.proofs.lemmas.Bool.{true≢false, eq-eqb}
use Rattle.std.proofs.lemmas.List.{append-nil}
use Rattle.daemon_requirements.specs.RequirementsView.{RequirementsView}
use Rattle.daemon_manager.specs.declared.events.Event.{Event}
use Rattle.daemon_manager.specs.declared.events.Event.TheVariants.{Started, Reserved, Released, Failed, Stopped}
use Rattle.daemon_manager.specs.declared.events.DaemonState.{DaemonState}
use Rattle.daemon_manager.specs.declared.events.DaemonState.TheVariants.{Busy, Idle}
use Rattle.daemon_manager.specs.Events.{daemon_of, is_about, state_after, state_of, started_with, started, DaemonView, daemon_view, pool, idle, IsBusy, IsJustStarted, MayStand, AreLegalAfter, IsLegal}
use Rattle.daemon_manager.specs.EventLogView.{one_if_busy}
use Rattle.daemon_manager.proofs.Order.{Some-is}
use Rattle.daemon_manager.proofs.EventLogKept.{None-is-not}
use Rattle.daemon_manager.proofs.lemmas.Appending.{pool_other, push_front, started_more, state_other, was_started}

-- one event about another daemon, a start too
one_other : (events : List Event) (e : Event) (d : ℕ) (x : DaemonView) → pool events d ≡ Some x → daemon_of e ≢ d → pool (events ++ e ∷ []) d ≡ Some x
one_other events e d x is other = by (started_with e) refl
  where
    by : (o : Option RequirementsView) → started_with e ≡ o → pool (events ++ e ∷ []) d ≡ Some x
    by None none = pool_other events e d none other ∙ is
    by (Some r) with_r =
        let more : slice_get (started (events ++ e ∷ [])) d ≡ slice_get (started events) d =
        ap (λ rs. slice_get rs d) (started_more events e ∙ ap (λ o. started events ++ cons_option o []) with_r) ∙ push_front (started events) r x.requirements d (was_started events d x is) ∙ sym (was_started events d x is) in
        (λ i. daemon_view (more i) (state_other events e d other i)) ∙ is

pub others : (events more : List Event) (d : ℕ) (x : DaemonView) → pool events d ≡ Some x → All (λ e. daemon_of e ≢ d) more → pool (events ++ more) d ≡ Some x
others events [] d x is apart = ap (λ es. pool es d) (append-nil events) ∙ is
others events (e ∷ more) d x is apart =
    ap (λ es. pool es d) (sym (append_assoc events (e ∷ []) more))
    ∙ others (events ++ e ∷ []) more d x (one_other events e d x is (apart 0 e (omega arith))) (λ k f within. apart (suc k) f (omega (arith, within)))

-- the state from one on
abbrev state_from : ℕ → Option DaemonState → List Event → Option DaemonState
state_from d s events = fold (λ state e. cond (is_about d e) (Some (state_after e)) state) s events

unmentioned : (d : ℕ) (events : List Event) (s : Option DaemonState) → list_any (is_about d) events ≡ false → state_from d s events ≡ s
unmentioned d [] s none = refl
unmentioned d (e ∷ events) s none = by (is_about d e) refl (λ here. unmentioned d events s (ap (λ b. b || list_any (is_about d) events) (sym here) ∙ none))
  where
    by : (b : Bool) → is_about d e ≡ b → (is_about d e ≡ false → state_from d s events ≡ s) → state_from d (cond (is_about d e) (Some (state_after e)) s) events ≡ s
    by true here rest = absurd (true≢false (sym (ap (λ c. c || list_any (is_about d) events) here) ∙ none))
    by false here rest = ap (λ c. state_from d (cond c (Some (state_after e)) s) events) here ∙ rest here

idle_from : (events : List Event) → All (λ d. (s : Option DaemonState) → state_from d s events ≡ Some Idle) (idle events)
idle_from [] = λ k d within. absurd (omega (arith, within))
idle_from (Started n r ∷ events) = λ k d within s. idle_from events k d within _
idle_from (Reserved n u ∷ events) = λ k d within s. idle_from events k d within _
idle_from (Failed n ∷ events) = λ k d within s. idle_from events k d within _
idle_from (Stopped n ∷ events) = λ k d within s. idle_from events k d within _
idle_from (Released n ∷ events) = by (idle_from events) (list_any (is_about n) events) refl
  where
    at : All (λ d. (s : Option DaemonState) → state_from d s events ≡ Some Idle) (idle events) → list_any (is_about n) events ≡ false → (k d : ℕ) → k < length (n ∷ idle events)
        → (s : Option DaemonState) → state_from (get_or (n ∷ idle events) k d) s (Released n ∷ events) ≡ Some Idle
    at rest none zero d within s = ap (λ b. state_from n (cond b (Some Idle) s) events) (eq-eqb n n refl) ∙ unmentioned n events (Some Idle) none
    at rest none (suc k) d within s = rest k d (omega (arith, within)) _

    by : All (λ d. (s : Option DaemonState) → state_from d s events ≡ Some Idle) (idle events) → (a : Bool) → list_any (is_about n) events ≡ a
        → All (λ d. (s : Option DaemonState) → state_from d s (Released n ∷ events) ≡ Some Idle) (cond a (idle events) (n ∷ idle events))
    by rest true is = λ k d within s. rest k d within _
    by rest false is = λ k d within. at rest is k d within

-- who stands in the order is idle
pub idle_in_order : (events : List Event) (d : ℕ) → Contains (idle events) d → state_of events d ≡ Some Idle
idle_in_order events d there = subst (λ x. state_of events x ≡ Some Idle) there.2 (idle_from events there.0 d there.1 None)

busy_state : (o : Option RequirementsView) (s : Option DaemonState) → IsSomeAnd (daemon_view o s) (λ x. x.state ≡ Busy) → (IsSomeAnd o (λ _. ◌≡◌ {A = ℕ} 0 0)) × (s ≡ Some Busy)
busy_state None s is = absurd is
busy_state (Some r) None is = absurd is
busy_state (Some r) (Some s) is = (refl, ap Some is)

idle_not_busy : (events : List Event) (d : ℕ) → IsBusy events d → Contains (idle events) d → ⊥
idle_not_busy events d busy there =
    omega (arith, ap one_if_busy (Some-is (sym (idle_in_order events d there) ∙ (busy_state (slice_get (started events) d) (state_of events d) busy).1)))

is_within : (rs : List RequirementsView) (d : ℕ) → IsSomeAnd (slice_get rs d) (λ _. ◌≡◌ {A = ℕ} 0 0) → d < length rs
is_within [] d is = absurd is
is_within (r ∷ rs) zero is = omega arith
is_within (r ∷ rs) (suc d) is = omega (arith, is_within rs d is)

stands_in : (before earlier later : List Event) (e : Event) → AreLegalAfter before (earlier ++ e ∷ later) → MayStand (before ++ earlier) e later
stands_in before [] later e legal = subst (λ es. MayStand es e later) (sym (append-nil before)) legal.0
stands_in before (f ∷ earlier) later e legal = subst (λ es. MayStand es e later) (append_assoc before (f ∷ []) earlier) (stands_in (before ++ f ∷ []) earlier later e legal.1)

first_is : (xs : List ℕ) (d : ℕ) → slice_get xs 0 ≡ Some d → Contains xs d
first_is [] d there = absurd (None-is-not there)
first_is (x ∷ xs) d there = (0, omega arith, Some-is there)

given_to : (earlier later : List Event) (e : Event) → MayStand earlier e later → IsBusy earlier (daemon_of e) → (e ≡ Released (daemon_of e)) ⊎ ((e ≡ Failed (daemon_of e)) ⊎ IsJustStarted earlier (daemon_of e))
given_to earlier later (Started d r) stands busy =
    let within : d < length (started earlier) = is_within (started earlier) d (busy_state (slice_get (started earlier) d) (state_of earlier d) busy).0 in
    absurd (omega (arith, within, stands.0))
given_to earlier later (Reserved d u) (inl there) busy = absurd (idle_not_busy earlier d busy there)
given_to earlier later (Reserved d u) (inr started) busy = inr (inr started)
given_to earlier later (Released d) stands busy = inl refl
given_to earlier later (Failed d) stands busy = inr (inl refl)
given_to earlier later (Stopped d) stands busy = absurd (idle_not_busy earlier d busy (first_is (idle earlier) d stands))

pub given_to_nobody_else : (earlier later : List Event) (e : Event) → IsLegal (earlier ++ e ∷ later) → IsBusy earlier (daemon_of e) → (e ≡ Released (daemon_of e)) ⊎ ((e ≡ Failed (daemon_of e)) ⊎ IsJustStarted earlier (daemon_of e))
given_to_nobody_else earlier later e legal busy = given_to earlier later e (stands_in [] earlier later e legal) busy
