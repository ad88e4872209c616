-- What is decided behind a closing.
use Rattle.std.proofs.Common.{◌≡◌, ◌⊎◌, ◌<◌, ℕ, inl, inr, length, refl, sym, ap, ◌∙◌, subst}
use Rattle.lock_journal.specs.Names.{GraphView, BookView, IsDisabled, IsFixedList, Closed}
use Rattle.lock_transforms.specs.declared.entries.Kind.TheVariants as kinds
use Rattle.coordination.specs.Names.{Finds, HadStep}
use Rattle.coordination.specs.declared.rule.Sight.{Sight}
use Rattle.async_tracker.specs.NextWork.{IsIdleIf, IsNextParkedWorkIf, IsNextWorkIf, step_of_next, step_of_parked}
use Rattle.async_tracker.specs.WorkSteps.{FailsAt, RetriesAt, kind_of_work}
use Rattle.async_tracker.specs.declared.next_work.NextWork.{NextWork}
use Rattle.async_tracker.specs.declared.next_work.ParkedWork.{ParkedWork}
use Rattle.planned_work.specs.Deciding.{idle_next, idle_then, parked_next, parked_then}
use Rattle.planned_work.specs.Done.{ClosedThen, HasClosed, Is}
use Rattle.planned_work.specs.Next.{HasNoChoice, IsIdleChoice, IsParkedChoice}
use Rattle.planned_work.specs.Places.{place_of}
use Rattle.planned_work.specs.Trying.{FollowLeaves, OfBook, WaitsOfBook}
use Rattle.planned_work.specs.declared.places.Place.TheVariants as places
use Rattle.planned_work.specs.declared.trying.Behind.{Behind}
use Rattle.planned_work.specs.declared.trying.Behind.TheVariants as behind
use Rattle.planned_work.specs.declared.trying.Tried.TheVariants as tried
use Rattle.planned_work.proofs.Carried.{Makes, chosen_then, decided_found, same_found}
use Rattle.planned_work.proofs.Choices.{ParkedWaits, idle_chosen, parked_chosen}
use Rattle.planned_work.proofs.Placed.{item_there}

-- an idle worker's item was closed, with the decision behind that
pub idle_behind : (c : Closed) (s s' : Sight) (b : Behind NextWork)
    → FollowLeaves IsNextWorkIf IsIdleIf step_of_next kind_of_work Makes FailsAt RetriesAt (kinds.Close c) (IsFixedList (kinds.Close c)) (IsDisabled (kinds.Close c)) s s' b → ClosedThen c places.Idle s s' (idle_then b)
idle_behind c s s' (behind.Decided d) h =
    let at : (book : BookView) → Finds h.between.worker h.between.seen book → (n : NextWork) → OfBook IsNextWorkIf h.between.worker book n → IsIdleChoice h.between.worker book n =
    λ book found n answer. answer in
    chosen_then c places.Idle s h.between s' (idle_next (tried.Decided d)) h.finished
    (idle_chosen (Is h.between.seen) h.between s' d
    (decided_found (OfBook IsNextWorkIf) IsIdleChoice step_of_next kind_of_work Makes FailsAt RetriesAt h.between s' at d h.decided)
    (same_found (OfBook IsNextWorkIf) IsIdleChoice step_of_next kind_of_work Makes FailsAt RetriesAt h.between s' at d h.decided ∙ h.at_once))
idle_behind c s s' behind.Alone h = record { between = s'; closed = h.finished; follows = inl (refl, why h.why) }
  where
    had : HadStep (OfBook IsNextWorkIf) step_of_next s'.worker s'.seen → HadStep IsIdleChoice step_of_next s'.worker s'.seen
    had k = (k.0, k.1, k.2, record { answer = k.3.answer; step = k.3.step; is = k.3.is; left = tt })

    why : WaitsOfBook IsIdleIf s'.worker s'.seen ⊎ HadStep (OfBook IsNextWorkIf) step_of_next s'.worker s'.seen → HasNoChoice places.Idle s'.worker s'.seen ⊎ HadStep IsIdleChoice step_of_next s'.worker s'.seen
    why (inl waits) = inl waits
    why (inr step) = inr (had step)
idle_behind c s s' behind.NoMemory h = h
idle_behind c s s' behind.Retry h = h
idle_behind c s s' behind.Again h = h

-- an action of the graph is one of each that the worker finds later
later_there : (s between : Sight) (book : BookView) (a : ℕ) → between.seen.graph ≡ s.seen.graph → a < length s.seen.graph.actions → Finds between.worker between.seen book → a < length book.graph.actions
later_there s between book a same there found = subst (λ (g : GraphView). a < length g.actions) (sym (found.agrees.graph ∙ same)) there

same_graph : (c : Closed) (s between : Sight) → HasClosed c s between → between.seen.graph ≡ s.seen.graph
same_graph c s between f = ap (λ (k : Sight). k.seen.graph) f.sight ∙ (f.graph ∙ f.found.agrees.graph)

-- the item of a parked worker was closed, with the decision behind that
pub parked_behind : (c : Closed) (u a : ℕ) (s s' : Sight) (b : Behind ParkedWork) → place_of s ≡ places.ItemIn u a
    → FollowLeaves (IsNextParkedWorkIf a) (ParkedWaits a) (step_of_parked a) kind_of_work Makes FailsAt RetriesAt (kinds.Close c) (IsFixedList (kinds.Close c)) (IsDisabled (kinds.Close c)) s s' b
    → ClosedThen c (places.Parked a) s s' (parked_then a b)
parked_behind c u a s s' (behind.Decided d) is h =
    let before = h.finished.before in
    let there : a < length s.seen.graph.actions = subst (λ (g : GraphView). a < length g.actions) h.finished.found.agrees.graph (item_there s before u a is h.finished.found) in
    let at : (book : BookView) → Finds h.between.worker h.between.seen book → (n : ParkedWork) → OfBook (IsNextParkedWorkIf a) h.between.worker book n → IsParkedChoice a h.between.worker book n =
    λ book found n answer. answer (later_there s h.between book a (same_graph c s h.between h.finished) there found) in
    chosen_then c (places.Parked a) s h.between s' (parked_next a (tried.Decided d)) h.finished
    (parked_chosen (Is h.between.seen) h.between s' a d
    (decided_found (OfBook (IsNextParkedWorkIf a)) (IsParkedChoice a) (step_of_parked a) kind_of_work Makes FailsAt RetriesAt h.between s' at d h.decided)
    (same_found (OfBook (IsNextParkedWorkIf a)) (IsParkedChoice a) (step_of_parked a) kind_of_work Makes FailsAt RetriesAt h.between s' at d h.decided ∙ h.at_once))
parked_behind c u a s s' behind.Alone is h =
    let there : a < length s'.seen.graph.actions =
    subst (λ (g : GraphView). a < length g.actions) (h.finished.found.agrees.graph ∙ sym (same_graph c s s' h.finished)) (item_there s h.finished.before u a is h.finished.found) in
    record { between = s'; closed = h.finished; follows = inl (refl, why there h.why) }
  where
    step_there : a < length s'.seen.graph.actions → HadStep (OfBook (IsNextParkedWorkIf a)) (step_of_parked a) s'.worker s'.seen → HadStep (IsParkedChoice a) (step_of_parked a) s'.worker s'.seen
    step_there there k =
        (k.0, k.1, k.2, record { answer = k.3.answer (subst (λ (g : GraphView). a < length g.actions) k.1.graph there); step = k.3.step; is = k.3.is; left = tt })

    why : a < length s'.seen.graph.actions → WaitsOfBook (ParkedWaits a) s'.worker s'.seen ⊎ HadStep (OfBook (IsNextParkedWorkIf a)) (step_of_parked a) s'.worker s'.seen
        → HasNoChoice (places.Parked a) s'.worker s'.seen ⊎ HadStep (IsParkedChoice a) (step_of_parked a) s'.worker s'.seen
    why there (inl waits) = inl (waits there)
    why there (inr step) = inr (step_there there step)
parked_behind c u a s s' behind.NoMemory is h = h
parked_behind c u a s s' behind.Retry is h = h
parked_behind c u a s s' behind.Again is h = h
