-- Idle daemons that are stopped one by one, until enough are.
use Rattle.std.proofs.Common.{◌≡◌, ◌≢◌, ◌⊎◌, ◌==◌, true, false, ℕ, ◌+◌, ◌<◌, ◌≤◌, List, [], ◌∷◌, ◌++◌, length, map, take, refl, sym, ap, ◌∙◌, inl, inr, arith, append_assoc, length-append}
use Rattle.std.proofs.lemmas.Bool.Decides.{eqb_tells}
use Rattle.std.specs.List.{sum_by}
use Rattle.std.proofs.lemmas.List.{append-nil, map-append}
use Rattle.std.proofs.lemmas.List.Sums.{sum_by-append, sum_by-cons}
use Rattle.std.proofs.Math.Seq.{take-append_seam}
use Rattle.daemon_requirements.specs.RequirementsView.{RequirementsView}
use Rattle.daemon_manager.specs.declared.events.Event.{Event}
use Rattle.daemon_manager.specs.declared.events.Event.TheVariants.{Stopped}
use Rattle.daemon_manager.specs.declared.idle.IdleDaemon.{IdleDaemon}
use Rattle.daemon_manager.specs.Calls.{StopsIdle}
use Rattle.daemon_manager.specs.PoolView.{PoolView}
use Rattle.memory_budget.specs.Heaps.{busy_heaps, held, idle_heaps}
use Rattle.memory_budget.specs.Stops.{IsEnough, NoneShorter, StopsFirst, StopsShortest}

module _ {L : Type 0} (made_for : L → RequirementsView) where
  -- so far each daemon had to be stopped, and the busy ones are as before
  pub record StopsSoFar (old new : PoolView L) (most_mb : ℕ) (links : List L) : Type 0 where
    pub daemons : List (IdleDaemon L)
    pub stopped : StopsFirst made_for old new daemons links
    pub shortest : NoneShorter made_for old most_mb daemons
    pub held : held old.events ≡ held new.events + idle_heaps made_for daemons
    pub busy : busy_heaps new.events ≡ busy_heaps old.events

  pub none_so_far : (p : PoolView L) (most_mb : ℕ) (links : List L) → links ≡ [] → StopsSoFar p p most_mb links
  none_so_far p most_mb links empty = record {
    daemons = [];
    stopped = record { first = refl; events = sym (append-nil p.events); links = empty };
    shortest = λ n less. absurd (omega (arith, less));
    held = omega arith;
    busy = refl;
  }

  pub one_more : (old now new : PoolView L) (most_mb : ℕ) (links : List L) (link : L) → StopsSoFar old now most_mb links → most_mb < held now.events → StopsIdle now new link
      → held now.events ≡ held new.events + (made_for link).heap_mb → busy_heaps new.events ≡ busy_heaps now.events → StopsSoFar old new most_mb (links ++ link ∷ [])
  one_more old now new most_mb links link so_far over stops held_less busy_same = record {
    daemons = so_far.daemons ++ first ∷ [];
    stopped = record {
      first = so_far.stopped.first ∙ ap (λ xs. so_far.daemons ++ xs) stops.first ∙ sym (append_assoc so_far.daemons (first ∷ []) new.idle);
      events = stops.events ∙ ap (λ xs. xs ++ Stopped stops.daemon ∷ []) so_far.stopped.events ∙ append_assoc old.events (map (λ i. Stopped i.daemon) so_far.daemons) (Stopped stops.daemon ∷ []) ∙ ap (λ xs. old.events ++ xs) (sym (map-append (λ (i : IdleDaemon L). Stopped i.daemon) so_far.daemons (first ∷ [])));
      links = ap (λ xs. xs ++ link ∷ []) so_far.stopped.links ∙ sym (map-append (λ (i : IdleDaemon L). i.link) so_far.daemons (first ∷ []));
    };
    shortest = λ n less. by n (omega (arith, less, length-append so_far.daemons (first ∷ []))) (eqb_tells n (length so_far.daemons));
    held = omega (arith, so_far.held, held_less, sum_by-append (λ (i : IdleDaemon L). (made_for i.link).heap_mb) so_far.daemons (first ∷ []));
    busy = busy_same ∙ so_far.busy;
  }
    where
      first : IdleDaemon L
      first = record { daemon = stops.daemon; link = link }

      taken : take (length so_far.daemons) old.idle ≡ so_far.daemons
      taken = ap (take (length so_far.daemons)) so_far.stopped.first ∙ take-append_seam so_far.daemons now.idle

      by : (n : ℕ) → n ≤ length so_far.daemons → (((n == length so_far.daemons) ≡ true) × (n ≡ length so_far.daemons)) ⊎ (((n == length so_far.daemons) ≡ false) × (n ≢ length so_far.daemons)) → ¬ IsEnough made_for old most_mb (take n old.idle)
      by n most (inl all) enough = omega (arith, enough, over, so_far.held, ap (λ m. idle_heaps made_for (take m old.idle)) all.1, ap (idle_heaps made_for) taken)
      by n most (inr fewer) enough = so_far.shortest n (omega (arith, most, fewer.1)) enough

  -- the daemons that were stopped are enough
  pub enough_so_far : (old new : PoolView L) (most_mb : ℕ) (links : List L) → StopsSoFar old new most_mb links → held new.events ≤ most_mb → StopsShortest made_for old new most_mb links
  enough_so_far old new most_mb links so_far within = record {
    daemons = so_far.daemons;
    stopped = so_far.stopped;
    enough = omega (arith, so_far.held, within);
    shortest = so_far.shortest;
  }

  -- a count of events in which a stop doesn't count
  stops_add_none : (f : Event → ℕ) → ((d : ℕ) → f (Stopped d) ≡ 0) → (daemons : List (IdleDaemon L)) → sum_by f (map (λ i. Stopped i.daemon) daemons) ≡ 0
  stops_add_none f none [] = refl
  stops_add_none f none (i ∷ daemons) =
      omega (arith, none i.daemon, stops_add_none f none daemons, sum_by-cons f (Stopped i.daemon) (map (λ (x : IdleDaemon L). Stopped x.daemon) daemons))

  pub stops_uncounted : (old new : PoolView L) (daemons : List (IdleDaemon L)) (links : List L) → StopsFirst made_for old new daemons links → (f : Event → ℕ) → ((d : ℕ) → f (Stopped d) ≡ 0) → sum_by f new.events ≡ sum_by f old.events
  stops_uncounted old new daemons links stops f none =
      omega (arith, ap (λ es. sum_by f es) stops.events, sum_by-append f old.events (map (λ (x : IdleDaemon L). Stopped x.daemon) daemons), stops_add_none f none daemons)
