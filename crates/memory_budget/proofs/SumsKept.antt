-- The sums of a pool after each of its calls.
use Rattle.std.proofs.Common.{◌≡◌, ◌≢◌, ◌⊎◌, ℕ, suc, ◌+◌, ◌<◌, ◌≤◌, List, [], ◌∷◌, ◌++◌, length, length-append, Option, Some, None, refl, sym, ap, ◌∙◌, subst, inl, inr, arith, append_assoc, All, unwrap_or}
use Rattle.std.specs.Option.{is_none}
use Rattle.std.proofs.lemmas.Bool.{true≢false}
use Rattle.std.proofs.lemmas.List.Sums.{sum_by-append, sum_by-cons}
use Rattle.daemon_requirements.specs.RequirementsView.{RequirementsView}
use Rattle.daemon_manager.specs.declared.events.Event.{Event}
use Rattle.daemon_manager.specs.declared.events.Event.TheVariants.{Reserved as ReservedFor, Released, Failed, Stopped}
use Rattle.daemon_manager.specs.declared.events.DaemonState.TheVariants.{Busy, Idle}
use Rattle.daemon_manager.specs.declared.idle.IdleDaemon.{IdleDaemon}
use Rattle.daemon_manager.specs.declared.reserved.Reserved.{Reserved}
use Rattle.daemon_manager.specs.Calls.{Adopts, Fails, FailsOrNot, Keeps, KeepsAndStops, Releases, Reserves, StopsIdle, idle_daemon}
use Rattle.daemon_manager.specs.Events.{pool}
use Rattle.daemon_manager.specs.PoolView.{PoolView, IsPool, IsOf}
use Rattle.daemon_manager.proofs.lemmas.PoolKept.{released_agrees}
use Rattle.memory_budget.specs.Heaps.{busy_heaps, has_memory, held, idle_heaps, is_busy}
use Rattle.memory_budget.specs.Sums.{AreSums}
use Rattle.memory_budget.proofs.SumsBelow.{adoption_adds, event_changes}

-- what holds of all holds of the one between
All-between : {X : Type 0} (P : X → Type 0) (before after : List X) (x : X) → All P (before ++ x ∷ after) → P x
All-between P [] after x all = all 0 x (omega arith)
All-between P (y ∷ before) after x all = All-between P before after x (λ k d within. all (suc k) d (omega (arith, within)))

module _ {L : Type 0} (made_for : L → RequirementsView) where
  idle_cons : (i : IdleDaemon L) (rest : List (IdleDaemon L)) → idle_heaps made_for (i ∷ rest) ≡ (made_for i.link).heap_mb + idle_heaps made_for rest
  idle_cons i rest = sum_by-cons (λ (x : IdleDaemon L). (made_for x.link).heap_mb) i rest

  idle_append : (xs ys : List (IdleDaemon L)) → idle_heaps made_for (xs ++ ys) ≡ idle_heaps made_for xs + idle_heaps made_for ys
  idle_append xs ys = sum_by-append (λ (x : IdleDaemon L). (made_for x.link).heap_mb) xs ys

  module _ (old new : PoolView L) (held_mb busy_mb : ℕ) (sums : AreSums made_for old held_mb busy_mb) where
    pub reserved_sums : (asked : RequirementsView) (unit : ℕ) (r : Reserved L) → IsPool made_for old → Reserves made_for old new asked unit r
        → AreSums made_for new held_mb (busy_mb + (made_for r.link).heap_mb)
    reserved_sums asked unit r sound reserves =
        let idle : pool old.events r.daemon ≡ Some (record { requirements = made_for r.link; state = Idle }) =
        All-between (λ i. pool old.events i.daemon ≡ Some (record { requirements = made_for i.link; state = Idle })) reserves.before reserves.after (idle_daemon r) (subst (All (λ i. pool old.events i.daemon ≡ Some (record { requirements = made_for i.link; state = Idle }))) reserves.chosen sound.links) in
        let held_by = event_changes has_memory old.events (ReservedFor r.daemon unit) (record { requirements = made_for r.link; state = Idle }) refl idle in
        let busy_by = event_changes is_busy old.events (ReservedFor r.daemon unit) (record { requirements = made_for r.link; state = Idle }) refl idle in
        let before : idle_heaps made_for old.idle ≡ idle_heaps made_for reserves.before + idle_heaps made_for (idle_daemon r ∷ reserves.after) = ap (idle_heaps made_for) reserves.chosen ∙ idle_append reserves.before (idle_daemon r ∷ reserves.after) in
        let after : idle_heaps made_for new.idle ≡ idle_heaps made_for reserves.before + idle_heaps made_for reserves.after = ap (idle_heaps made_for) reserves.left ∙ idle_append reserves.before reserves.after in
        record {
          held = omega (arith, sums.held, held_by, ap held reserves.events);
          busy = omega (arith, sums.busy, busy_by, ap busy_heaps reserves.events);
          idle = omega (arith, sums.idle, before, after, idle_cons (idle_daemon r) reserves.after);
        }

    pub adopted_sums : (requirements : RequirementsView) (unit : ℕ) (link : L) (r : Reserved L) → Adopts made_for old new link requirements unit r
        → AreSums made_for new (held_mb + requirements.heap_mb) (busy_mb + requirements.heap_mb)
    adopted_sums requirements unit link r adopts = record {
      held = omega (arith, sums.held, adoption_adds has_memory old.events r.daemon unit requirements adopts.next, ap held adopts.events);
      busy = omega (arith, sums.busy, adoption_adds is_busy old.events r.daemon unit requirements adopts.next, ap busy_heaps adopts.events);
      idle = omega (arith, sums.idle, ap (idle_heaps made_for) adopts.idle);
    }

    -- the heap of a busy daemon is among those that are held, and those of the busy ones
    pub own_counted : (r : Reserved L) → IsOf made_for old r → ((made_for r.link).heap_mb ≤ held_mb) × ((made_for r.link).heap_mb ≤ busy_mb)
    own_counted r own = (
      omega (arith, sums.held, event_changes has_memory old.events (Failed r.daemon) (record { requirements = made_for r.link; state = Busy }) refl own),
      omega (arith, sums.busy, event_changes is_busy old.events (Failed r.daemon) (record { requirements = made_for r.link; state = Busy }) refl own),
    )

    pub kept_sums : (r : Reserved L) (result : Option L) (busy_left : ℕ) → IsOf made_for old r → Keeps made_for old new r result → busy_left + (made_for r.link).heap_mb ≡ busy_mb
        → AreSums made_for new held_mb busy_left
    kept_sums r result busy_left own keeps less =
        let held_by = event_changes has_memory old.events (Released r.daemon) (record { requirements = made_for r.link; state = Busy }) refl own in
        let busy_by = event_changes is_busy old.events (Released r.daemon) (record { requirements = made_for r.link; state = Busy }) refl own in
        let after : idle_heaps made_for new.idle ≡ idle_heaps made_for old.idle + idle_heaps made_for (idle_daemon r ∷ []) = ap (idle_heaps made_for) keeps.idle ∙ idle_append old.idle (idle_daemon r ∷ []) in
        record {
          held = omega (arith, sums.held, held_by, ap held keeps.events);
          busy = omega (arith, sums.busy, busy_by, less, ap busy_heaps keeps.events);
          idle = omega (arith, sums.idle, after, less, idle_cons (idle_daemon r) []);
        }

    module _ (r : Reserved L) (result : Option L) (own : IsOf made_for old r) (sound : IsPool made_for old) (stops : KeepsAndStops made_for old new r result) where
      abbrev released : List Event
      released = old.events ++ Released r.daemon ∷ []

      first_idle : pool released stops.first.daemon ≡ Some (record { requirements = made_for stops.first.link; state = Idle })
      first_idle = All-between (λ i. pool released i.daemon ≡ Some (record { requirements = made_for i.link; state = Idle })) [] new.idle stops.first (subst (All (λ i. pool released i.daemon ≡ Some (record { requirements = made_for i.link; state = Idle }))) stops.idle (released_agrees made_for old.events old.idle sound r.daemon r.link own).links)

      events_are : new.events ≡ released ++ Stopped stops.first.daemon ∷ []
      events_are = stops.events ∙ sym (append_assoc old.events (Released r.daemon ∷ []) (Stopped stops.first.daemon ∷ []))

      idle_by : idle_heaps made_for old.idle + (made_for r.link).heap_mb ≡ (made_for stops.first.link).heap_mb + idle_heaps made_for new.idle
      idle_by = omega (arith, idle_append old.idle (idle_daemon r ∷ []), idle_cons (idle_daemon r) [], idle_cons stops.first new.idle, ap (idle_heaps made_for) stops.idle)

      held_twice : held new.events + (made_for stops.first.link).heap_mb ≡ held old.events
      held_twice = omega (arith, ap held events_are, event_changes has_memory old.events (Released r.daemon) (record { requirements = made_for r.link; state = Busy }) refl own, event_changes has_memory released (Stopped stops.first.daemon) (record { requirements = made_for stops.first.link; state = Idle }) refl first_idle)

      busy_twice : busy_heaps new.events + (made_for r.link).heap_mb ≡ busy_heaps old.events
      busy_twice = omega (arith, ap busy_heaps events_are, event_changes is_busy old.events (Released r.daemon) (record { requirements = made_for r.link; state = Busy }) refl own, event_changes is_busy released (Stopped stops.first.daemon) (record { requirements = made_for stops.first.link; state = Idle }) refl first_idle)

      pub first_counted : (made_for stops.first.link).heap_mb ≤ held_mb
      first_counted = omega (arith, sums.held, held_twice)

      pub stopped_sums : (held_left busy_left : ℕ) → held_left + (made_for stops.first.link).heap_mb ≡ held_mb → busy_left + (made_for r.link).heap_mb ≡ busy_mb
          → AreSums made_for new held_left busy_left
      stopped_sums held_left busy_left held_less busy_less = record {
        held = omega (arith, sums.held, held_twice, held_less);
        busy = omega (arith, sums.busy, busy_twice, busy_less);
        idle = omega (arith, sums.idle, idle_by, held_less, busy_less);
      }

    pub failed_sums : (r : Reserved L) (held_left busy_left : ℕ) → Fails made_for old new r → held_left + (made_for r.link).heap_mb ≡ held_mb → busy_left + (made_for r.link).heap_mb ≡ busy_mb
        → AreSums made_for new held_left busy_left
    failed_sums r held_left busy_left fails held_less busy_less = record {
      held = omega (arith, sums.held, held_less, ap held fails.events, event_changes has_memory old.events (Failed r.daemon) (record { requirements = made_for r.link; state = Busy }) refl fails.own);
      busy = omega (arith, sums.busy, busy_less, ap busy_heaps fails.events, event_changes is_busy old.events (Failed r.daemon) (record { requirements = made_for r.link; state = Busy }) refl fails.own);
      idle = omega (arith, sums.idle, held_less, busy_less, ap (idle_heaps made_for) fails.idle);
    }

    module _ (link : L) (sound : IsPool made_for old) (stops : StopsIdle old new link) where
      was_idle : pool old.events stops.daemon ≡ Some (record { requirements = made_for link; state = Idle })
      was_idle = All-between (λ i. pool old.events i.daemon ≡ Some (record { requirements = made_for i.link; state = Idle })) [] new.idle (record { daemon = stops.daemon; link = link }) (subst (All (λ i. pool old.events i.daemon ≡ Some (record { requirements = made_for i.link; state = Idle }))) stops.first sound.links)

      pub idle_held : held old.events ≡ held new.events + (made_for link).heap_mb
      idle_held = omega (arith, ap held stops.events, event_changes has_memory old.events (Stopped stops.daemon) (record { requirements = made_for link; state = Idle }) refl was_idle)

      pub idle_busy : busy_heaps new.events ≡ busy_heaps old.events
      idle_busy = omega (arith, ap busy_heaps stops.events, event_changes is_busy old.events (Stopped stops.daemon) (record { requirements = made_for link; state = Idle }) refl was_idle)

      pub idle_counted : (made_for link).heap_mb ≤ held_mb
      idle_counted = omega (arith, sums.held, idle_held)

      pub idle_sums : (held_left : ℕ) → held_left + (made_for link).heap_mb ≡ held_mb → AreSums made_for new held_left busy_mb
      idle_sums held_left less = record {
        held = omega (arith, sums.held, idle_held, less);
        busy = omega (arith, sums.busy, idle_busy);
        idle = omega (arith, sums.idle, less, ap (idle_heaps made_for) stops.first, idle_cons (record { daemon = stops.daemon; link = link }) new.idle);
      }

    -- what a daemon's release leaves held
    pub released_held : (r : Reserved L) (result : Option L) → IsPool made_for old → Releases made_for old new r result → held new.events ≤ held old.events
    released_held r result sound (inl (own, inl keeps)) = omega (arith, ap held keeps.events, event_changes has_memory old.events (Released r.daemon) (record { requirements = made_for r.link; state = Busy }) refl own)
    released_held r result sound (inl (own, inr stops)) = omega (arith, held_twice r result own sound stops)
    released_held r result sound (inr refuses) = omega (arith, ap (λ (p : PoolView L). held p.events) refuses.same)

    pub failed_held : (r : Reserved L) (result : L) → FailsOrNot made_for old new r result → held new.events ≤ held old.events
    failed_held r result (same, inl fails) = omega (arith, ap held fails.events, event_changes has_memory old.events (Failed r.daemon) (record { requirements = made_for r.link; state = Busy }) refl fails.own)
    failed_held r result (same, inr other) = omega (arith, ap (λ (p : PoolView L). held p.events) other.1)

    -- a pool that has as many events as before changed nothing
    pub no_release : (r : Reserved L) (result : Option L) → Releases made_for old new r result → length new.events ≡ length old.events → AreSums made_for new held_mb busy_mb
    no_release r result (inl (own, inl keeps)) same = absurd (omega (arith, same, ap length keeps.events, length-append old.events (Released r.daemon ∷ [])))
    no_release r result (inl (own, inr stops)) same = absurd (omega (arith, same, ap length stops.events, length-append old.events (Released r.daemon ∷ Stopped stops.first.daemon ∷ [])))
    no_release r result (inr refuses) same = subst (λ p. AreSums made_for p held_mb busy_mb) (sym refuses.same) sums

    -- a pool that has more events took its daemon back
    own_release : (r : Reserved L) (result : Option L) → Releases made_for old new r result → length new.events ≢ length old.events → IsOf made_for old r × (Keeps made_for old new r result ⊎ KeepsAndStops made_for old new r result)
    own_release r result (inl own) more = own
    own_release r result (inr refuses) more = absurd (more (ap (λ (p : PoolView L). length p.events) refuses.same))

    own_kept : (r : Reserved L) (result : Option L) → result ≡ None → Keeps made_for old new r result ⊎ KeepsAndStops made_for old new r result → Keeps made_for old new r result
    own_kept r result none (inl keeps) = keeps
    own_kept r result none (inr stops) = absurd (true≢false (sym (ap is_none none) ∙ ap is_none stops.stopped))

    own_stopped : (r : Reserved L) (result : Option L) (link : L) → result ≡ Some link → Keeps made_for old new r result ⊎ KeepsAndStops made_for old new r result → KeepsAndStops made_for old new r result
    own_stopped r result link some (inl keeps) = absurd (true≢false (sym (ap is_none keeps.none) ∙ ap is_none some))
    own_stopped r result link some (inr stops) = stops

    module _ (r : Reserved L) (result : Option L) (sound : IsPool made_for old) (releases : Releases made_for old new r result) (more : length new.events ≢ length old.events) where
      own : IsOf made_for old r × (Keeps made_for old new r result ⊎ KeepsAndStops made_for old new r result)
      own = own_release r result releases more

      pub release_counted : (made_for r.link).heap_mb ≤ busy_mb
      release_counted = (own_counted r own.0).1

      pub release_kept : (busy_left : ℕ) → result ≡ None → busy_left + (made_for r.link).heap_mb ≡ busy_mb → AreSums made_for new held_mb busy_left
      release_kept busy_left none less = kept_sums r result busy_left own.0 (own_kept r result none own.1) less

      module _ (link : L) (some : result ≡ Some link) where
        stops : KeepsAndStops made_for old new r result
        stops = own_stopped r result link some own.1

        same_heap : (made_for stops.first.link).heap_mb ≡ (made_for link).heap_mb
        same_heap = ap (λ o. (made_for (unwrap_or o link)).heap_mb) (sym stops.stopped ∙ some)

        pub release_first : (made_for link).heap_mb ≤ held_mb
        release_first = omega (arith, same_heap, first_counted r result own.0 sound stops)

        pub release_stopped : (held_left busy_left : ℕ) → held_left + (made_for link).heap_mb ≡ held_mb → busy_left + (made_for r.link).heap_mb ≡ busy_mb → AreSums made_for new held_left busy_left
        release_stopped held_left busy_left held_less busy_less = stopped_sums r result own.0 sound stops held_left busy_left (omega (arith, same_heap, held_less)) busy_less

    -- a pool that has more events noted the failure of its daemon
    pub own_failed : (r : Reserved L) (result : L) → FailsOrNot made_for old new r result → length old.events < length new.events → Fails made_for old new r
    own_failed r result (same, inl fails) more = fails
    own_failed r result (same, inr other) more = absurd (omega (arith, more, ap (λ (p : PoolView L). length p.events) other.1))

    pub not_failed : (r : Reserved L) (result : L) → FailsOrNot made_for old new r result → ¬ (length old.events < length new.events) → AreSums made_for new held_mb busy_mb
    not_failed r result (same, inl fails) less = absurd (less (omega (arith, ap length fails.events, length-append old.events (Failed r.daemon ∷ []))))
    not_failed r result (same, inr other) less = subst (λ p. AreSums made_for p held_mb busy_mb) (sym other.1) sums
