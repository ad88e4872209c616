-- For which units daemons were reserved, after each call of a pool.
use Rattle.std.proofs.Common.{◌≡◌, ℕ, zero, suc, List, [], ◌∷◌, ◌++◌, Option, Some, None, refl, sym, ap, ◌∙◌, subst, slice_get, All, IsSomeAnd, get_or, inl, inr}
use Rattle.std.proofs.lemmas.List.Elements.{All-append, All-cons, All-nil, filter_map-append}
use Rattle.daemon_requirements.specs.RequirementsView.{RequirementsView}
use Rattle.daemon_requirements.specs.Covers.{Covers}
use Rattle.daemon_manager.specs.Asking.{AreAskedFor, IsAskedFor, CoversFor}
use Rattle.daemon_manager.specs.Calls.{Adopts, FailsOrNot, Releases, ReservesOrNot, StopsOrNot}
use Rattle.daemon_manager.specs.Events.{started, started_with}
use Rattle.daemon_manager.specs.PoolView.{PoolView}
use Rattle.daemon_manager.specs.declared.events.Event.{Event}
use Rattle.daemon_manager.specs.declared.events.Event.TheVariants.{Started, Reserved as ReservedFor, Released, Failed, Stopped}
use Rattle.daemon_manager.specs.declared.reserved.Reserved.{Reserved}
use Rattle.daemon_manager.proofs.EventLogKept.{None-is-not}
use Rattle.daemon_manager.proofs.lemmas.Appending.{was_started}
use Rattle.daemon_manager.proofs.lemmas.Coverings.{covers_itself}

-- what stands in a list stands in a longer one
there_too : {X : Type 0} (xs ys : List X) (x : X) (i : ℕ) → slice_get xs i ≡ Some x → slice_get (xs ++ ys) i ≡ Some x
there_too [] ys x i there = absurd (None-is-not there)
there_too (z ∷ zs) ys x zero there = there
there_too (z ∷ zs) ys x (suc i) there = there_too zs ys x i there

module _ (asks : ℕ → RequirementsView → Type 0) where
  more_started : (made more : List RequirementsView) (e : Event) → IsAskedFor asks made e → IsAskedFor asks (made ++ more) e
  more_started made more (Started d r) is = is
  more_started made more (ReservedFor d unit) is = at (slice_get made d) refl is
    where
      at : (o : Option RequirementsView) → slice_get made d ≡ o → IsSomeAnd o (CoversFor asks unit) → IsSomeAnd (slice_get (made ++ more) d) (CoversFor asks unit)
      at None there served = absurd served
      at (Some r) there served = subst (λ o. IsSomeAnd o (CoversFor asks unit)) (sym (there_too made more r d there)) served
  more_started made more (Released d) is = is
  more_started made more (Failed d) is = is
  more_started made more (Stopped d) is = is

  asked_with : (old more new : List Event) → new ≡ old ++ more → AreAskedFor asks old → All (IsAskedFor asks (started new)) more → AreAskedFor asks new
  asked_with old more new is are later =
      let made = ap started is ∙ filter_map-append started_with old more in
      let still : All (IsAskedFor asks (started new)) old = (λ i e within. subst (λ (rs : List RequirementsView). IsAskedFor asks rs (get_or old i e)) (sym made) (more_started (started old) (started more) (get_or old i e) (are i e within))) in
      subst (All (IsAskedFor asks (started new))) (sym is) (All-append (IsAskedFor asks (started new)) old more still later)

  -- one event more
  asked_one : (old new : List Event) (e : Event) → new ≡ old ++ e ∷ [] → AreAskedFor asks old → IsAskedFor asks (started new) e → AreAskedFor asks new
  asked_one old new e is are one = let P = IsAskedFor asks (started new) in asked_with old (e ∷ []) new is are (All-cons P e [] one (All-nil P))

  -- two events more
  asked_two : (old new : List Event) (e f : Event) → new ≡ old ++ e ∷ f ∷ [] → AreAskedFor asks old → IsAskedFor asks (started new) e → IsAskedFor asks (started new) f → AreAskedFor asks new
  asked_two old new e f is are one two =
      let P = IsAskedFor asks (started new) in
      asked_with old (e ∷ f ∷ []) new is are (All-cons P e (f ∷ []) one (All-cons P f [] two (All-nil P)))

  module _ {L : Type 0} where
    pub asked_stopped : (old new : PoolView L) (result : Option L) → StopsOrNot old new result → AreAskedFor asks old.events → AreAskedFor asks new.events
    asked_stopped old new None is are = subst (λ (p : PoolView L). AreAskedFor asks p.events) (sym is.1) are
    asked_stopped old new (Some link) is are = asked_one old.events new.events (Stopped is.daemon) is.events are tt

  module _ {L : Type 0} (made_for : L → RequirementsView) where
    served : (p : PoolView L) (r : Reserved L) (unit : ℕ) → slice_get (started p.events) r.daemon ≡ Some (made_for r.link) → CoversFor asks unit (made_for r.link)
        → IsAskedFor asks (started p.events) (ReservedFor r.daemon unit)
    served p r unit made is = subst (λ o. IsSomeAnd o (CoversFor asks unit)) (sym made) is

    pub asked_reserved : (old new : PoolView L) (asked : RequirementsView) (unit : ℕ) (found : Option (Reserved L)) → ReservesOrNot made_for old new asked unit found → asks unit asked
        → AreAskedFor asks old.events → AreAskedFor asks new.events
    asked_reserved old new asked unit None is may are = subst (λ (p : PoolView L). AreAskedFor asks p.events) (sym is.same) are
    asked_reserved old new asked unit (Some r) is may are =
        let serves = served new r unit (was_started new.events r.daemon _ is.own) (asked, may, is.covers) in
        asked_one old.events new.events (ReservedFor r.daemon unit) is.events are serves

    pub asked_adopted : (old new : PoolView L) (link : L) (requirements : RequirementsView) (unit : ℕ) (r : Reserved L) → Adopts made_for old new link requirements unit r
        → made_for link ≡ requirements → asks unit requirements → AreAskedFor asks old.events → AreAskedFor asks new.events
    asked_adopted old new link requirements unit r is made may are =
        let covers = subst (λ (m : RequirementsView). Covers m requirements) (sym (ap made_for is.link ∙ made)) (covers_itself requirements) in
        let serves = served new r unit (was_started new.events r.daemon _ is.own) (requirements, may, covers) in
        asked_two old.events new.events (Started r.daemon requirements) (ReservedFor r.daemon unit) is.events are tt serves

    pub asked_released : (old new : PoolView L) (r : Reserved L) (result : Option L) → Releases made_for old new r result → AreAskedFor asks old.events → AreAskedFor asks new.events
    asked_released old new r result (inl (own, inl keeps)) are = asked_one old.events new.events (Released r.daemon) keeps.events are tt
    asked_released old new r result (inl (own, inr keeps)) are = asked_two old.events new.events (Released r.daemon) (Stopped keeps.first.daemon) keeps.events are tt tt
    asked_released old new r result (inr refused) are = subst (λ (p : PoolView L). AreAskedFor asks p.events) (sym refused.same) are

    pub asked_failed : (old new : PoolView L) (r : Reserved L) (result : L) → FailsOrNot made_for old new r result → AreAskedFor asks old.events → AreAskedFor asks new.events
    asked_failed old new r result (link, inl fails) are = asked_one old.events new.events (Failed r.daemon) fails.events are tt
    asked_failed old new r result (link, inr other) are = subst (λ (p : PoolView L). AreAskedFor asks p.events) (sym other.1) are
