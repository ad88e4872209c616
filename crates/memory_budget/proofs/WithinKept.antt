-- What is held at each moment, after each call of a pool.
use Rattle.std.proofs.Common.{◌≡◌, ℕ, ◌+◌, ◌≤◌, List, [], ◌∷◌, ◌++◌, Option, refl, sym, ap, ◌∙◌, subst, inl, inr, arith, append_assoc}
use Rattle.std.proofs.lemmas.List.{append-nil}
use Rattle.daemon_requirements.specs.RequirementsView.{RequirementsView}
use Rattle.daemon_manager.specs.declared.events.Event.{Event}
use Rattle.daemon_manager.specs.declared.events.Event.TheVariants.{Started, Reserved as ReservedFor, Released, Failed, Stopped}
use Rattle.daemon_manager.specs.declared.events.DaemonState.TheVariants.{Busy}
use Rattle.daemon_manager.specs.declared.reserved.Reserved.{Reserved}
use Rattle.daemon_manager.specs.Calls.{Adopts, FailsOrNot, Releases}
use Rattle.daemon_manager.specs.PoolView.{PoolView, IsPool}
use Rattle.memory_budget.specs.Heaps.{has_memory, held}
use Rattle.memory_budget.specs.Limits.{KeepsWithin, StaysWithin, StaysWithinAfter}
use Rattle.memory_budget.specs.Sums.{AreSums}
use Rattle.memory_budget.proofs.SumsBelow.{adoption_adds, event_changes, next_adds}
use Rattle.memory_budget.proofs.SumsKept.{failed_held, released_held}

within_after_more : (b : ℕ) (earlier events more : List Event) → StaysWithinAfter b earlier events → StaysWithinAfter b (earlier ++ events) more → StaysWithinAfter b earlier (events ++ more)
within_after_more b earlier [] more within next = subst (λ es. StaysWithinAfter b es more) (append-nil earlier) next
within_after_more b earlier (e ∷ events) more within next = (
  within.0,
  within_after_more b (earlier ++ e ∷ []) events more within.1 (subst (λ es. StaysWithinAfter b es more) (sym (append_assoc earlier (e ∷ []) events)) next),
)

within_more : (b : ℕ) (events more new : List Event) → new ≡ events ++ more → StaysWithin b events → StaysWithinAfter b events more → StaysWithin b new
within_more b events more new is within next = subst (StaysWithin b) (sym is) (within_after_more b [] events more within next)

-- nothing happened
pub none_within : (least_mb : ℕ) (old new : List Event) → new ≡ old → KeepsWithin least_mb old new
none_within least_mb old new same b most within = subst (StaysWithin b) (sym same) within

-- one event, after which no more than this is held
pub one_within : (least_mb : ℕ) (old new : List Event) (e : Event) → new ≡ old ++ e ∷ [] → held new ≤ least_mb → KeepsWithin least_mb old new
one_within least_mb old new e is less b most within = within_more b old (e ∷ []) new is within (omega (arith, ap held is, less, most), tt)

-- two events, after each of which no more than this is held
pub two_within : (least_mb : ℕ) (old new : List Event) (e f : Event) → new ≡ old ++ e ∷ f ∷ [] → held (old ++ e ∷ []) ≤ least_mb → held new ≤ least_mb → KeepsWithin least_mb old new
two_within least_mb old new e f is first second b most within =
    within_more b old (e ∷ f ∷ []) new is within (omega (arith, first, most), (omega (arith, ap held (is ∙ sym (append_assoc old (e ∷ []) (f ∷ []))), second, most), tt))

-- one call behind another that left no more held
pub then_within : (old now new : List Event) → KeepsWithin (held old) old now → held now ≤ held old → KeepsWithin (held now) now new → KeepsWithin (held old) old new
then_within old now new first less second b most within = second b (omega (arith, less, most)) (first b most within)

module _ {L : Type 0} (made_for : L → RequirementsView) (old new : PoolView L) where
  pub adopted_within : (requirements : RequirementsView) (unit : ℕ) (link : L) (r : Reserved L) → Adopts made_for old new link requirements unit r
      → KeepsWithin (held old.events + requirements.heap_mb) old.events new.events
  adopted_within requirements unit link r adopts =
      two_within (held old.events + requirements.heap_mb) old.events new.events (Started r.daemon requirements) (ReservedFor r.daemon unit) adopts.events
      (omega (arith, next_adds has_memory old.events r.daemon requirements adopts.next))
      (omega (arith, adoption_adds has_memory old.events r.daemon unit requirements adopts.next, ap held adopts.events))

  module _ (held_mb busy_mb : ℕ) (sums : AreSums made_for old held_mb busy_mb) where
    pub released_within : (r : Reserved L) (result : Option L) → IsPool made_for old → Releases made_for old new r result → KeepsWithin (held old.events) old.events new.events
    released_within r result sound (inl (own, inl keeps)) =
        one_within (held old.events) old.events new.events (Released r.daemon) keeps.events (released_held made_for old new held_mb busy_mb sums r result sound (inl (own, inl keeps)))
    released_within r result sound (inl (own, inr stops)) =
        two_within (held old.events) old.events new.events (Released r.daemon) (Stopped stops.first.daemon) stops.events
        (omega (arith, event_changes has_memory old.events (Released r.daemon) (record { requirements = made_for r.link; state = Busy }) refl own))
        (released_held made_for old new held_mb busy_mb sums r result sound (inl (own, inr stops)))
    released_within r result sound (inr refuses) = none_within (held old.events) old.events new.events (ap (λ (p : PoolView L). p.events) refuses.same)

    pub failed_within : (r : Reserved L) (result : L) → FailsOrNot made_for old new r result → KeepsWithin (held old.events) old.events new.events
    failed_within r result (same, inl fails) =
        one_within (held old.events) old.events new.events (Failed r.daemon) fails.events (failed_held made_for old new held_mb busy_mb sums r result (same, inl fails))
    failed_within r result (same, inr other) = none_within (held old.events) old.events new.events (ap (λ (p : PoolView L). p.events) other.1)
