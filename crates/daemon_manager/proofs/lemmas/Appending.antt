-- What one event more says of the daemons.
use Rattle.std.proofs.Common.{◌≡◌, ◌≢◌, ◌⊎◌, ℕ, zero, suc, true, false, cond, List, [], ◌∷◌, ◌++◌, length, Option, Some, None, refl, sym, ap, ◌∙◌, inl, inr, arith, slice_get}
use Rattle.std.specs.List.{filter_map, cons_option, list_any, fold}
use Rattle.std.proofs.lemmas.Bool.{true≢false, eq-eqb}
use Rattle.std.proofs.lemmas.Bool.Decides.{eqb_tells}
use Rattle.std.proofs.lemmas.List.{append-nil}
use Rattle.std.proofs.lemmas.List.Sums.{fold-append}
use Rattle.std.proofs.lemmas.List.Elements.{filter_map-append}
use Rattle.std.proofs.lemmas.Option.{slice_get_past}
use Rattle.daemon_requirements.specs.RequirementsView.{RequirementsView}
use Rattle.daemon_manager.specs.declared.events.Event.{Event}
use Rattle.daemon_manager.specs.declared.events.Event.TheVariants.{Started}
use Rattle.daemon_manager.specs.declared.events.DaemonState.{DaemonState}
use Rattle.daemon_manager.specs.declared.events.DaemonState.TheVariants.{Busy}
use Rattle.daemon_manager.specs.Events.{daemon_of, is_about, state_after, state_of, started_with, started, DaemonView, daemon_view, pool}
use Rattle.daemon_manager.proofs.Order.{Some-is}

not_about : (e : Event) (d : ℕ) → daemon_of e ≢ d → is_about d e ≡ false
not_about e d other = at (eqb_tells (daemon_of e) d)
  where
    at : ((is_about d e ≡ true) × (daemon_of e ≡ d)) ⊎ ((is_about d e ≡ false) × (daemon_of e ≢ d)) → is_about d e ≡ false
    at (inl same) = absurd (other same.1)
    at (inr differ) = differ.0

pub state_other : (events : List Event) (e : Event) (d : ℕ) → daemon_of e ≢ d → state_of (events ++ e ∷ []) d ≡ state_of events d
state_other events e d other = fold-append _ None events (e ∷ []) ∙ ap (λ b. cond b (Some (state_after e)) (state_of events d)) (not_about e d other)

state_same : (events : List Event) (e : Event) (d : ℕ) → daemon_of e ≡ d → state_of (events ++ e ∷ []) d ≡ Some (state_after e)
state_same events e d same = fold-append _ None events (e ∷ []) ∙ ap (λ b. cond b (Some (state_after e)) (state_of events d)) (eq-eqb (daemon_of e) d same)

pub started_more : (events : List Event) (e : Event) → started (events ++ e ∷ []) ≡ started events ++ cons_option (started_with e) []
started_more events e = filter_map-append started_with events (e ∷ [])

pub started_same : (events : List Event) (e : Event) → started_with e ≡ None → started (events ++ e ∷ []) ≡ started events
started_same events e none = started_more events e ∙ ap (λ o. started events ++ cons_option o []) none ∙ append-nil (started events)

module _ {X : Type 0} where
  pub push_other : (xs : List X) (x : X) (d : ℕ) → d ≢ length xs → slice_get (xs ++ x ∷ []) d ≡ slice_get xs d
  push_other [] x zero other = absurd (other refl)
  push_other [] x (suc d) other = refl
  push_other (y ∷ ys) x zero other = refl
  push_other (y ∷ ys) x (suc d) other = push_other ys x d (λ e. other (ap suc e))

  pub push_last : (xs : List X) (x : X) → slice_get (xs ++ x ∷ []) (length xs) ≡ Some x
  push_last [] x = refl
  push_last (y ∷ ys) x = push_last ys x

  pub push_front : (xs : List X) (x y : X) (d : ℕ) → slice_get xs d ≡ Some y → slice_get (xs ++ x ∷ []) d ≡ Some y
  push_front [] x y d there = absurd (true≢false (sym (ap Rattle.std.specs.Option.is_some there)))
  push_front (z ∷ zs) x y zero there = there
  push_front (z ∷ zs) x y (suc d) there = push_front zs x y d there

-- the parts of a daemon that was started
parts : (o : Option RequirementsView) (s : Option DaemonState) (x : DaemonView) → daemon_view o s ≡ Some x → (o ≡ Some x.requirements) × (s ≡ Some x.state)
parts None s x e = absurd (true≢false (sym (ap Rattle.std.specs.Option.is_some e)))
parts (Some r) None x e = absurd (true≢false (sym (ap Rattle.std.specs.Option.is_some e)))
parts (Some r) (Some s) x e = (ap (λ y. Some y.requirements) (Some-is e), ap (λ y. Some y.state) (Some-is e))

pub was_started : (events : List Event) (d : ℕ) (x : DaemonView) → pool events d ≡ Some x → slice_get (started events) d ≡ Some x.requirements
was_started events d x e = (parts (slice_get (started events) d) (state_of events d) x e).0

-- an event that isn't a start changes its daemon alone
pub pool_other : (events : List Event) (e : Event) (d : ℕ) → started_with e ≡ None → daemon_of e ≢ d → pool (events ++ e ∷ []) d ≡ pool events d
pool_other events e d none other = λ i. daemon_view (slice_get (started_same events e none i) d) (state_other events e d other i)

pub pool_same : (events : List Event) (e : Event) (d : ℕ) (x : DaemonView) → started_with e ≡ None → daemon_of e ≡ d → pool events d ≡ Some x
    → pool (events ++ e ∷ []) d ≡ Some (record { requirements = x.requirements; state = state_after e })
pool_same events e d x none same was = λ i. daemon_view ((ap (λ rs. slice_get rs d) (started_same events e none) ∙ was_started events d x was) i) (state_same events e d same i)

-- the start of the next daemon changes that one alone
pub pool_before : (events : List Event) (r : RequirementsView) (d : ℕ) → d ≢ length (started events) → pool (events ++ Started (length (started events)) r ∷ []) d ≡ pool events d
pool_before events r d other =
    λ i. daemon_view
    ((ap (λ rs. slice_get rs d) (started_more events (Started (length (started events)) r)) ∙ push_other (started events) r d other) i)
    (state_other events (Started (length (started events)) r) d (λ e. other (sym e)) i)

pub pool_next : (events : List Event) (r : RequirementsView) → pool (events ++ Started (length (started events)) r ∷ []) (length (started events)) ≡ Some (record { requirements = r; state = Busy })
pool_next events r =
    λ i. daemon_view
    ((ap (λ rs. slice_get rs (length (started events))) (started_more events (Started (length (started events)) r)) ∙ push_last (started events) r) i)
    (state_same events (Started (length (started events)) r) (length (started events)) refl i)

-- the next daemon wasn't started
pub next_is_none : (events : List Event) → pool events (length (started events)) ≡ None
next_is_none events = ap (λ o. daemon_view o (state_of events (length (started events)))) (slice_get_past (started events) (length (started events)) (omega arith))
