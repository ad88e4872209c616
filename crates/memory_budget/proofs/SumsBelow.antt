-- Sums over the numbers below a number, and the heaps after one event more.
use Rattle.std.proofs.Common.{◌≡◌, ◌≢◌, ◌⊎◌, ◌==◌, ℕ, zero, suc, ◌+◌, ◌<◌, Bool, true, false, List, [], ◌∷◌, ◌++◌, length, Some, None, refl, sym, ap, ◌∙◌, subst, inl, inr, arith, append_assoc, length-append}
use Rattle.std.proofs.lemmas.Bool.Decides.{eqb_tells}
use Rattle.std.proofs.lemmas.Option.{slice_get_within}
use Rattle.daemon_requirements.specs.RequirementsView.{RequirementsView}
use Rattle.daemon_manager.specs.declared.events.Event.{Event}
use Rattle.daemon_manager.specs.declared.events.Event.TheVariants.{Started, Reserved}
use Rattle.daemon_manager.specs.declared.events.DaemonState.{DaemonState}
use Rattle.daemon_manager.specs.declared.events.DaemonState.TheVariants.{Busy}
use Rattle.daemon_manager.specs.Events.{DaemonView, daemon_of, pool, started, started_with, state_after}
use Rattle.daemon_manager.proofs.lemmas.Appending.{pool_other, pool_same, pool_before, pool_next, started_more, started_same, was_started}
use Rattle.memory_budget.specs.Heaps.{heap_where, heaps_where, sum_below}

pub sum_same : (f g : ℕ → ℕ) (n : ℕ) → ((k : ℕ) → k < n → f k ≡ g k) → sum_below f n ≡ sum_below g n
sum_same f g zero same = refl
sum_same f g (suc n) same = rw (sum_same f g n (λ k less. same k (omega (arith, less))), same n (omega arith)) refl

-- functions that differ at one number alone
pub sum_change : (f g : ℕ → ℕ) (n d : ℕ) → d < n → ((k : ℕ) → k ≢ d → f k ≡ g k) → sum_below g n + f d ≡ sum_below f n + g d
sum_change f g zero d less others = absurd (omega (arith, less))
sum_change f g (suc n) d less others = by (eqb_tells d n) (λ below. sum_change f g n d below others)
  where
    by : (((d == n) ≡ true) × (d ≡ n)) ⊎ (((d == n) ≡ false) × (d ≢ n)) → (d < n → sum_below g n + f d ≡ sum_below f n + g d) → sum_below g (suc n) + f d ≡ sum_below f (suc n) + g d
    by (inl same) rest =
        let below : sum_below f n ≡ sum_below g n = sum_same f g n (λ k k_less. others k (λ is. omega (arith, k_less, is, same.1))) in
        omega (arith, below, ap f same.1, ap g same.1)
    by (inr differ) rest = omega (arith, rest (omega (arith, less, differ.1)), others n (λ is. differ.1 (sym is)))

module _ (does : DaemonState → Bool) where
  abbrev heap_in : List Event → ℕ → ℕ
  heap_in events d = heap_where does (pool events d)

  -- an event that isn't a start changes the heap of its daemon alone
  pub event_changes : (events : List Event) (e : Event) (x : DaemonView) → started_with e ≡ None → pool events (daemon_of e) ≡ Some x
      → heaps_where does (events ++ e ∷ []) + heap_where does (Some x) ≡ heaps_where does events + heap_where does (Some (record { requirements = x.requirements; state = state_after e }))
  event_changes events e x none was =
      let d : ℕ = daemon_of e in
      let n : ℕ = length (started events) in
      let less : d < n = slice_get_within (started events) d x.requirements (was_started events d x was) in
      let changed : sum_below (heap_in (events ++ e ∷ [])) n + heap_in events d ≡ sum_below (heap_in events) n + heap_in (events ++ e ∷ []) d =
      sum_change (heap_in events) (heap_in (events ++ e ∷ [])) n d less (λ k other. ap (heap_where does) (sym (pool_other events e k none (λ is. other (sym is))))) in
      let long : heaps_where does (events ++ e ∷ []) ≡ sum_below (heap_in (events ++ e ∷ [])) n = ap (λ rs. sum_below (heap_in (events ++ e ∷ [])) (length rs)) (started_same events e none) in
      omega (arith, changed, long, ap (heap_where does) was, ap (heap_where does) (pool_same events e d x none refl was))

  -- the start of the next daemon adds its heap
  start_adds : (events : List Event) (r : RequirementsView)
      → heaps_where does (events ++ Started (length (started events)) r ∷ []) ≡ heaps_where does events + heap_where does (Some (record { requirements = r; state = Busy }))
  start_adds events r =
      let n : ℕ = length (started events) in
      let more : List Event = events ++ Started n r ∷ [] in
      let long : length (started more) ≡ suc n = ap length (started_more events (Started n r)) ∙ length-append (started events) (r ∷ []) ∙ omega arith in
      let below : sum_below (heap_in more) n ≡ sum_below (heap_in events) n = sum_same (heap_in more) (heap_in events) n (λ k less. ap (heap_where does) (pool_before events r k (λ is. omega (arith, less, is)))) in
      omega (arith, ap (sum_below (heap_in more)) long, below, ap (heap_where does) (pool_next events r))

  -- the same, of a number that is the next
  pub next_adds : (events : List Event) (n : ℕ) (r : RequirementsView) → n ≡ length (started events)
      → heaps_where does (events ++ Started n r ∷ []) ≡ heaps_where does events + heap_where does (Some (record { requirements = r; state = Busy }))
  next_adds events n r next =
      subst (λ m. heaps_where does (events ++ Started m r ∷ []) ≡ heaps_where does events + heap_where does (Some (record { requirements = r; state = Busy }))) (sym next) (start_adds events r)

  pub adoption_adds : (events : List Event) (n u : ℕ) (r : RequirementsView) → n ≡ length (started events)
      → heaps_where does (events ++ Started n r ∷ Reserved n u ∷ []) ≡ heaps_where does events + heap_where does (Some (record { requirements = r; state = Busy }))
  adoption_adds events n u r next =
      subst (λ m. heaps_where does (events ++ Started m r ∷ Reserved m u ∷ []) ≡ heaps_where does events + heap_where does (Some (record { requirements = r; state = Busy }))) (sym next) first
    where
      m : ℕ
      m = length (started events)

      more : List Event
      more = events ++ Started m r ∷ []

      twice : heaps_where does (more ++ Reserved m u ∷ []) + heap_where does (Some (record { requirements = r; state = Busy })) ≡ heaps_where does more + heap_where does (Some (record { requirements = r; state = Busy }))
      twice = event_changes more (Reserved m u) (record { requirements = r; state = Busy }) refl (pool_next events r)

      first : heaps_where does (events ++ Started m r ∷ Reserved m u ∷ []) ≡ heaps_where does events + heap_where does (Some (record { requirements = r; state = Busy }))
      first = omega (arith, twice, start_adds events r, ap (heaps_where does) (append_assoc events (Started m r ∷ []) (Reserved m u ∷ [])))
