-- A pool after each of its calls.
use Rattle.std.proofs.Common.{◌≡◌, ◌≢◌, ℕ, zero, suc, ◌<◌, ◌≤◌, List, [], ◌∷◌, ◌++◌, length, get_or, map, Option, Some, None, refl, sym, ap, ◌∙◌, subst, inl, inr, arith, append_assoc, remove, slice_get, All, IsSomeAnd, Contains, length-append, take, drop}
use Rattle.std.proofs.lemmas.List.{append-nil, map-append}
use Rattle.std.proofs.lemmas.List.Edits.{length-remove}
use Rattle.std.proofs.lemmas.List.Elements.{All-map, All-push}
use Rattle.std.proofs.lemmas.Option.{slice_get_within, slice_get-get_or, get_or_from_slice_get, slice_get-map}
use Rattle.daemon_requirements.specs.RequirementsView.{RequirementsView}
use Rattle.daemon_manager.specs.declared.events.Event.{Event}
use Rattle.daemon_manager.specs.declared.events.Event.TheVariants.{Started, Reserved, Released, Failed, Stopped}
use Rattle.daemon_manager.specs.declared.events.DaemonState.TheVariants.{Busy, Idle}
use Rattle.daemon_manager.specs.declared.idle.IdleDaemon.{IdleDaemon}
use Rattle.daemon_manager.specs.declared.idle.TheConstants.{MAX_IDLE_DAEMONS}
use Rattle.daemon_manager.specs.Events.{daemon_of, started_with, started, DaemonView, pool, idle, IsBusy, IsLegal}
use Rattle.daemon_manager.specs.EventLogView.{one_if_busy}
use Rattle.daemon_manager.specs.PoolView.{IsPool}
use Rattle.daemon_manager.proofs.Order.{Some-is, length-mapped, map-remove}
use Rattle.daemon_manager.proofs.IdleKept.{stood, differ}
use Rattle.daemon_manager.proofs.EventLogKept.{None-is-not}
use Rattle.daemon_manager.proofs.lemmas.Appending.{pool_other, pool_same, pool_before, pool_next, next_is_none}
use Rattle.daemon_manager.proofs.Ordering.{left_by, released, idle_more, idle_distinct, left_all, left_one}
use Rattle.daemon_manager.proofs.Legality.{legal_more}

pub first_and_rest : {X : Type 0} (xs : List X) (x : X) → slice_get xs 0 ≡ Some x → xs ≡ x ∷ remove xs 0
first_and_rest [] x there = absurd (None-is-not there)
first_and_rest (y ∷ ys) x there = ap (λ z. z ∷ ys) (Some-is there)

pub split_at : {X : Type 0} (xs : List X) (i : ℕ) (x : X) → slice_get xs i ≡ Some x → xs ≡ take i xs ++ x ∷ drop (suc i) xs
split_at [] i x there = absurd (None-is-not there)
split_at (y ∷ ys) zero x there = ap (λ z. z ∷ ys) (Some-is there)
split_at (y ∷ ys) (suc i) x there = ap (λ zs. y ∷ zs) (split_at ys i x there)

-- what holds of all holds of those that are left
pub All-left : {X : Type 0} (P : X → Type 0) (xs : List X) (i : ℕ) → i < length xs → All P xs → All P (remove xs i)
All-left P xs i within all k d left = let from = stood xs i k d within left in subst P (sym from.2.1) (all from.0 d from.1)

-- what holds of all holds of the one at a place
pub All-there : {X : Type 0} (P : X → Type 0) (xs : List X) (i : ℕ) (x : X) → slice_get xs i ≡ Some x → All P xs → P x
All-there P xs i x there all = subst P (get_or_from_slice_get xs i x x there) (all i x (slice_get_within xs i x there))

idle_not_busy : {q r : RequirementsView} → ◌≡◌ {A = Option DaemonView} (Some (record { requirements = q; state = Idle })) (Some (record { requirements = r; state = Busy })) → ⊥
idle_not_busy e = omega (arith, ap (λ (v : DaemonView). one_if_busy v.state) (Some-is e))

pub is_busy_daemon : (events : List Event) (d : ℕ) (r : RequirementsView) → pool events d ≡ Some (record { requirements = r; state = Busy }) → IsBusy events d
is_busy_daemon events d r busy = subst (λ o. IsSomeAnd o (λ x. x.state ≡ Busy)) (sym busy) refl

module _ {L : Type 0} (made_for : L → RequirementsView) where
  -- the idle daemons are those of the events, with links made for them
  pub record Agrees (events : List Event) (held : List (IdleDaemon L)) : Type 0 where
    pub numbers : map (λ i. i.daemon) held ≡ idle events
    pub links : All (λ i. pool events i.daemon ≡ Some (record { requirements = made_for i.link; state = Idle })) held

  module _ (events : List Event) (held : List (IdleDaemon L)) (agrees : Agrees events held) where
    busy_apart : (d : ℕ) (r : RequirementsView) → pool events d ≡ Some (record { requirements = r; state = Busy }) → All (λ i. i.daemon ≢ d) held
    busy_apart d r busy k i within same = idle_not_busy (sym (agrees.links k i within) ∙ ap (pool events) same ∙ busy)

    next_apart : (n : ℕ) → n ≡ length (started events) → All (λ i. i.daemon ≢ n) held
    next_apart n next k i within same = None-is-not (sym (ap (pool events) (same ∙ next) ∙ next_is_none events) ∙ agrees.links k i within)

    numbers_apart : (d : ℕ) → All (λ i. i.daemon ≢ d) held → All (λ x. x ≢ d) (idle events)
    numbers_apart d apart = subst (λ xs. All (λ x. x ≢ d) xs) agrees.numbers (All-map (λ x. x ≢ d) (λ i. i.daemon) held apart)

    links_apart : (e : Event) → started_with e ≡ None → All (λ i. i.daemon ≢ daemon_of e) held → All (λ i. pool (events ++ e ∷ []) i.daemon ≡ Some (record { requirements = made_for i.link; state = Idle })) held
    links_apart e none apart k i within = pool_other events e _ none (λ same. apart k i within (sym same)) ∙ agrees.links k i within

    -- an event about a busy daemon that isn't released
    pub left_alone : (e : Event) (r : RequirementsView) → started_with e ≡ None → released e ≡ [] → pool events (daemon_of e) ≡ Some (record { requirements = r; state = Busy }) → Agrees (events ++ e ∷ []) held
    left_alone e r none no_release busy =
        let apart = busy_apart (daemon_of e) r busy in
        record {
          numbers = agrees.numbers ∙ sym (idle_more events e ∙ ap (λ xs. left_by e (idle events) ++ xs) no_release ∙ append-nil _ ∙ left_all e (idle events) (numbers_apart (daemon_of e) apart));
          links = links_apart e none apart;
        }

    -- the release of a busy daemon
    pub put_back : (d : ℕ) (link : L) → pool events d ≡ Some (record { requirements = made_for link; state = Busy }) → Agrees (events ++ Released d ∷ []) (held ++ record { daemon = d; link = link } ∷ [])
    put_back d link busy =
        let e = Released d in
        let apart = busy_apart d (made_for link) busy in
        record {
          numbers = map-append (λ i. i.daemon) held _ ∙ ap (λ xs. xs ++ d ∷ []) (agrees.numbers ∙ sym (left_all e (idle events) (numbers_apart d apart))) ∙ sym (idle_more events e);
          links = All-push (λ (i : IdleDaemon L). pool (events ++ Released d ∷ []) i.daemon ≡ Some (record { requirements = made_for i.link; state = Idle })) held _ (links_apart e refl apart) (pool_same events e d _ refl refl busy);
        }

    -- the start of the next daemon
    pub begun : (n : ℕ) (r : RequirementsView) → n ≡ length (started events) → Agrees (events ++ Started n r ∷ []) held
    begun n r next =
        let e = Started n r in
        let apart = next_apart n next in
        record {
          numbers = agrees.numbers ∙ sym (idle_more events e ∙ append-nil _ ∙ left_all e (idle events) (numbers_apart n apart));
          links = λ k i within. ap (λ m. pool (events ++ Started m r ∷ []) (get_or held k i).daemon) next ∙ pool_before events r _ (λ same. apart k i within (same ∙ sym next)) ∙ agrees.links k i within;
        }

    module _ (place : ℕ) (h : IdleDaemon L) (there : slice_get held place ≡ Some h) where
      within_held : place < length held
      within_held = slice_get_within held place h there

      number_there : slice_get (idle events) place ≡ Some h.daemon
      number_there = ap (λ xs. slice_get xs place) (sym agrees.numbers) ∙ slice_get-map (λ (i : IdleDaemon L). i.daemon) held place ∙ ap (λ o. Rattle.std.specs.Prelude.option_map (λ (i : IdleDaemon L). i.daemon) o) there

      pub is_idle : Contains (idle events) h.daemon
      is_idle = (place, slice_get_within (idle events) place h.daemon number_there, get_or_from_slice_get (idle events) place h.daemon h.daemon number_there)

      pub link_there : pool events h.daemon ≡ Some (record { requirements = made_for h.link; state = Idle })
      link_there = subst (λ (i : IdleDaemon L). pool events i.daemon ≡ Some (record { requirements = made_for i.link; state = Idle })) (get_or_from_slice_get held place h h there) (agrees.links place h within_held)

      pub first_there : place ≡ 0 → slice_get (idle events) 0 ≡ Some h.daemon
      first_there first = ap (λ k. slice_get (idle events) k) (sym first) ∙ number_there

      apart_left : All (λ i. i.daemon ≢ h.daemon) (remove held place)
      apart_left k i left same =
          let from = stood held place k i within_held left in
          let numbers : (j : ℕ) (d : ℕ) (i : IdleDaemon L) → j < length held → get_or (idle events) j d ≡ (get_or held j i).daemon = λ j d i within.
          get_or_from_slice_get (idle events) j _ d (ap (λ xs. slice_get xs j) (sym agrees.numbers) ∙ slice_get-map (λ (i : IdleDaemon L). i.daemon) held j ∙ ap (λ o. Rattle.std.specs.Prelude.option_map (λ (i : IdleDaemon L). i.daemon) o) (slice_get-get_or held j i within)) in
          let long : length (idle events) ≡ length held = ap length (sym agrees.numbers) ∙ length-mapped (λ (i : IdleDaemon L). i.daemon) held in
          differ (λ x. x) (idle events) place from.0 h.daemon (idle_distinct events) (omega (arith, long, within_held)) (omega (arith, long, from.1)) from.2.0
          (numbers from.0 h.daemon i from.1 ∙ ap (λ (x : IdleDaemon L). x.daemon) (sym from.2.1) ∙ same ∙ sym (get_or_from_slice_get (idle events) place h.daemon h.daemon number_there))

      -- an event about an idle daemon that isn't released
      pub took_out : (e : Event) → started_with e ≡ None → released e ≡ [] → daemon_of e ≡ h.daemon → Agrees (events ++ e ∷ []) (remove held place)
      took_out e none no_release about = record {
        numbers = map-remove (λ i. i.daemon) held place ∙ ap (λ xs. remove xs place) agrees.numbers ∙ sym (idle_more events e ∙ ap (λ xs. left_by e (idle events) ++ xs) no_release ∙ append-nil _ ∙ left_one e (idle events) place (idle_distinct events) (slice_get_within (idle events) place h.daemon number_there) (get_or_from_slice_get (idle events) place (daemon_of e) (daemon_of e) (number_there ∙ ap Some (sym about))));
        links = λ k i left.
            let from = stood held place k i within_held left in
            pool_other events e _ none (λ same. apart_left k i left (sym same ∙ about))
            ∙ subst (λ (x : IdleDaemon L). pool events x.daemon ≡ Some (record { requirements = made_for x.link; state = Idle })) (sym from.2.1) (agrees.links from.0 i from.1);
      }

  module _ (events : List Event) (held : List (IdleDaemon L)) (sound : IsPool made_for (record { events = events; idle = held })) where
    agrees : Agrees events held
    agrees = record { numbers = sound.numbers; links = sound.links }

    pub adopted_pool : (n u : ℕ) (r : RequirementsView) → n ≡ length (started events) → IsPool made_for (record { events = events ++ Started n r ∷ Reserved n u ∷ []; idle = held })
    adopted_pool n u r next =
        let once = begun events held agrees n r next in
        let busy : pool (events ++ Started n r ∷ []) n ≡ Some (record { requirements = r; state = Busy }) = subst (λ m. pool (events ++ Started m r ∷ []) m ≡ Some (record { requirements = r; state = Busy })) (sym next) (pool_next events r) in
        let both = subst (λ es. Agrees es held) (append_assoc events (Started n r ∷ []) (Reserved n u ∷ [])) (left_alone (events ++ Started n r ∷ []) held once (Reserved n u) r refl refl busy) in
        record {
          legal = legal_more events (Started n r ∷ Reserved n u ∷ []) sound.legal ((next, refl), (inr (events, r, refl), tt));
          numbers = both.numbers;
          links = both.links;
          few = sound.few;
        }

    pub adopted_own : (n u : ℕ) (r : RequirementsView) → n ≡ length (started events) → pool (events ++ Started n r ∷ Reserved n u ∷ []) n ≡ Some (record { requirements = r; state = Busy })
    adopted_own n u r next =
        let busy : pool (events ++ Started n r ∷ []) n ≡ Some (record { requirements = r; state = Busy }) = subst (λ m. pool (events ++ Started m r ∷ []) m ≡ Some (record { requirements = r; state = Busy })) (sym next) (pool_next events r) in
        ap (λ es. pool es n) (sym (append_assoc events (Started n r ∷ []) (Reserved n u ∷ []))) ∙ pool_same (events ++ Started n r ∷ []) (Reserved n u) n _ refl refl busy

    pub failed_pool : (d : ℕ) (r : RequirementsView) → pool events d ≡ Some (record { requirements = r; state = Busy }) → IsPool made_for (record { events = events ++ Failed d ∷ []; idle = held })
    failed_pool d r busy =
        let once = left_alone events held agrees (Failed d) r refl refl busy in
        record {
          legal = legal_more events (Failed d ∷ []) sound.legal (is_busy_daemon events d r busy, tt);
          numbers = once.numbers;
          links = once.links;
          few = sound.few;
        }

    pub released_agrees : (d : ℕ) (link : L) → pool events d ≡ Some (record { requirements = made_for link; state = Busy }) → Agrees (events ++ Released d ∷ []) (held ++ record { daemon = d; link = link } ∷ [])
    released_agrees d link busy = put_back events held agrees d link busy

    pub released_pool : (d : ℕ) (link : L) → pool events d ≡ Some (record { requirements = made_for link; state = Busy }) → length (held ++ record { daemon = d; link = link } ∷ []) ≤ MAX_IDLE_DAEMONS
        → IsPool made_for (record { events = events ++ Released d ∷ []; idle = held ++ record { daemon = d; link = link } ∷ [] })
    released_pool d link busy few =
        let once = put_back events held agrees d link busy in
        let long = ap length (sym once.numbers) ∙ length-mapped (λ (i : IdleDaemon L). i.daemon) (held ++ record { daemon = d; link = link } ∷ []) in
        record {
          legal = legal_more events (Released d ∷ []) sound.legal ((is_busy_daemon events d (made_for link) busy, λ full. absurd (omega (arith, full, long, few))), tt);
          numbers = once.numbers;
          links = once.links;
          few = few;
        }

    pub released_stopped_pool : (d : ℕ) (link : L) (h : IdleDaemon L) → pool events d ≡ Some (record { requirements = made_for link; state = Busy })
        → slice_get (held ++ record { daemon = d; link = link } ∷ []) 0 ≡ Some h
        → IsPool made_for (record { events = (events ++ Released d ∷ []) ++ Stopped h.daemon ∷ []; idle = remove (held ++ record { daemon = d; link = link } ∷ []) 0 })
    released_stopped_pool d link h busy there =
        let more : List (IdleDaemon L) = held ++ record { daemon = d; link = link } ∷ [] in
        let once = put_back events held agrees d link busy in
        let twice = took_out (events ++ Released d ∷ []) more once 0 h there (Stopped h.daemon) refl refl refl in
        let first = first_there (events ++ Released d ∷ []) more once 0 h there refl in
        record {
          legal = subst IsLegal (sym (append_assoc events (Released d ∷ []) (Stopped h.daemon ∷ []))) (legal_more events (Released d ∷ Stopped h.daemon ∷ []) sound.legal ((is_busy_daemon events d (made_for link) busy, λ _. first), (first, tt)));
          numbers = twice.numbers;
          links = twice.links;
          few = omega (arith, length-remove more 0 (slice_get_within more 0 h there), length-append held (record { daemon = d; link = link } ∷ []), sound.few);
        }

    module _ (place : ℕ) (h : IdleDaemon L) (there : slice_get held place ≡ Some h) where
      pub reserved_pool : (u : ℕ) → IsPool made_for (record { events = events ++ Reserved h.daemon u ∷ []; idle = remove held place })
      reserved_pool u =
          let once = took_out events held agrees place h there (Reserved h.daemon u) refl refl refl in
          record {
            legal = legal_more events (Reserved h.daemon u ∷ []) sound.legal (inl (is_idle events held agrees place h there), tt);
            numbers = once.numbers;
            links = once.links;
            few = omega (arith, length-remove held place (slice_get_within held place h there), sound.few);
          }

      pub reserved_own : (u : ℕ) → pool (events ++ Reserved h.daemon u ∷ []) h.daemon ≡ Some (record { requirements = made_for h.link; state = Busy })
      reserved_own u = pool_same events (Reserved h.daemon u) h.daemon _ refl refl (link_there events held agrees place h there)

      pub known_idle : IsSomeAnd (pool events h.daemon) (λ x. x.state ≡ Idle)
      known_idle = subst (λ o. IsSomeAnd o (λ x. x.state ≡ Idle)) (sym (link_there events held agrees place h there)) refl

      pub stopped_pool : place ≡ 0 → IsPool made_for (record { events = events ++ Stopped h.daemon ∷ []; idle = remove held place })
      stopped_pool first =
          let once = took_out events held agrees place h there (Stopped h.daemon) refl refl refl in
          record {
            legal = legal_more events (Stopped h.daemon ∷ []) sound.legal (first_there events held agrees place h there first, tt);
            numbers = once.numbers;
            links = once.links;
            few = omega (arith, length-remove held place (slice_get_within held place h there), sound.few);
          }

    pub released_known : (d : ℕ) (link : L) (h : IdleDaemon L) → pool events d ≡ Some (record { requirements = made_for link; state = Busy })
        → slice_get (held ++ record { daemon = d; link = link } ∷ []) 0 ≡ Some h → IsSomeAnd (pool (events ++ Released d ∷ []) h.daemon) (λ x. x.state ≡ Idle)
    released_known d link h busy there =
        subst (λ o. IsSomeAnd o (λ x. x.state ≡ Idle)) (sym (link_there (events ++ Released d ∷ []) (held ++ record { daemon = d; link = link } ∷ []) (put_back events held agrees d link busy) 0 h there)) refl
