-- The index follows the claim and the end of one unit.
use Rattle.std.proofs.Common.{◌≡◌, ℕ, ◌<◌, ◌⊎◌, true, false, List, [], ◌∷◌, length, None, Some, inl, inr, refl, sym, ap, ◌∙◌, subst, arith}
use Rattle.std.specs.Prelude.{IfSome, Option}
use Rattle.std.proofs.lemmas.Bool.{and_parts, false≢true, true≢false}
use Rattle.std.proofs.lemmas.List.{get_or-set_same}
use Rattle.std.proofs.lemmas.Option.{IfSome_then}
use Rattle.resource_lock.specs.Change.{can, can_all, make}
use Rattle.resource_lock.specs.GraphView.{GraphView}
use Rattle.resource_lock.specs.Marks.{has_ended}
use Rattle.resource_lock.specs.StateView.{StateView, mark_of}
use Rattle.resource_lock.specs.declared.changes.Change.{Change}
use Rattle.resource_lock.specs.declared.changes.Change.TheVariants.{Give, Move, Take}
use Rattle.resource_lock.specs.declared.ids.WorkerId.{WorkerId}
use Rattle.resource_lock.specs.declared.marks.Mark.{Mark}
use Rattle.resource_lock.specs.declared.marks.Mark.TheVariants.{Queued, Running, Waiting}
use Rattle.resource_lock.specs.declared.marks.MarkId.TheVariants.{Unit as UnitOf}
use Rattle.resource_lock.proofs.lemmas.Undo.{same_mark_is}
use Rattle.ready_work.specs.Choices.{IsFree, IsOpenUnit, IsQueued}
use Rattle.ready_work.specs.NumberSetView.{NumberSetView, has, room_of}
use Rattle.ready_work.specs.ReadyWork.{Follows, FollowsOn, IsIndexOf, Notes, TouchesLock, TouchesTask, TouchesUnit, claimed_unit, closed_unit}
use Rattle.ready_work.specs.Sets.{IsRightAt, Looks, LooksWhereKept, NoNumber, PutsWhereKept}
use Rattle.ready_work.specs.declared.ready_works.ReadyWork.{ReadyWork}
use Rattle.ready_work.proofs.Following.{all_at, index_closed, index_open, named_after, next_looked, no_task_noted, noted_unit}
use Rattle.ready_work.proofs.Looking.{kept_looks_nowhere, kept_put, looks_nowhere, looks_put}

-- a change that touches no unit, no task and no lock
nothing_noted : {g : GraphView} {s : StateView} {ready : ReadyWork} (c : Change) → ((k : ℕ) → TouchesUnit c k → ⊥) → ((k : ℕ) → TouchesTask c k → ⊥) → ((k : ℕ) → TouchesLock c k → ⊥) → Notes g s c ready ready
nothing_noted {g} {s} {ready} c no_unit no_task no_lock = record {
  dependents = refl;
  open_units = looks_nowhere (IsOpenUnit g s) (TouchesUnit c) ready.open_units no_unit;
  queued = kept_looks_nowhere (IsQueued g s) (TouchesUnit c) ready.queued no_unit;
  tasks = no_task_noted g s (TouchesTask c) ready.tasks no_task;
  free = looks_nowhere (IsFree g s) (TouchesLock c) ready.tasks.startable.free no_lock;
}

-- a set that is right at a number needn't be looked at there
right_there : {P : ℕ → Type 0} {u : ℕ} {set : NumberSetView} → IsRightAt P set u → Looks P (λ k. k ≡ u) set set
right_there {P} {u} {set} right = record { room = refl; seen = λ k e. subst (IsRightAt P set) (sym e) right; kept = λ k. inl refl }

right_where_kept : (P : ℕ → Type 0) (u : ℕ) (set : Option NumberSetView) → IfSome set (λ kept. IsRightAt P kept u) → LooksWhereKept P (λ k. k ≡ u) set set
right_where_kept P u None right = tt
right_where_kept P u (Some set) right = right_there right

follows : {g : GraphView} {before s : StateView} {w : WorkerId} {changes : List Change} {old : ReadyWork} → FollowsOn g before w changes s old → Follows g before w changes s old
follows f = record { belongs = f.belongs; led = inl f.led; index = f.index }

module _ {g : GraphView} {before s : StateView} {w : WorkerId} {u : ℕ} {old : ReadyWork} where
  module _ (f : FollowsOn g before w (claimed_unit w u) s old) where
    pub claim_within : u < g.units
    claim_within =
        let there : u < length s.units = named_after g before w (claimed_unit w u) s old 1 Take (follows f) (omega arith) in
        let same = f.belongs.units in
        omega (arith, there, same)

    pub claim_room : IfSome old.queued (λ set. u < room_of set)
    claim_room = IfSome_then old.queued f.index.made.queued_units (λ set enough. omega (arith, enough, claim_within))

    -- it was queued, and runs
    was_queued : mark_of before (UnitOf u) ≡ Queued
    was_queued =
        let taken : StateView = make before w Take in
        let first = and_parts (can before w Take) (can_all taken w (Move (UnitOf u) Queued (Running w) ∷ [])) f.led.possible in
        let second = and_parts (can taken w (Move (UnitOf u) Queued (Running w))) true first.1 in
        same_mark_is (mark_of before (UnitOf u)) Queued (and_parts _ _ (and_parts _ _ (and_parts _ _ second.0).0).0).0

    claim_runs : mark_of s (UnitOf u) ≡ Running w
    claim_runs =
        let there : u < length before.units = all_at before (claimed_unit w u) 1 Take f.led.named (omega arith) in
        ap (λ (t : StateView). mark_of t (UnitOf u)) f.led.state ∙ get_or-set_same before.units u (Running w) Waiting there

    -- it was open and still is
    open_as_before : NoNumber u ⊎ IsRightAt (IsOpenUnit g before) old.open_units u → IsRightAt (IsOpenUnit g s) old.open_units u
    open_as_before (inl none) = absurd none
    open_as_before (inr is) = (λ h. record { within = claim_within; unended = ap has_ended claim_runs }, λ o. is.1 (record { within = claim_within; unended = ap has_ended was_queued }))

    pub index_of_claim : (queued : Option NumberSetView) → PutsWhereKept u false old.queued queued → IsIndexOf g s (record old { queued = queued })
    index_of_claim queued puts =
        let move : Change = Move (UnitOf u) Queued (Running w) in
        let new : ReadyWork = record old { queued = queued } in
        let not_queued : IsQueued g s u → false ≡ true = λ is. let e = sym claim_runs ∙ is.queued in absurd (cc) in
        let notes : Notes g s move old new =
        noted_unit g s u Queued (Running w) old new refl (right_there (open_as_before (f.index.open_units.each u)))
        (kept_put (IsQueued g s) u false old.queued queued puts (λ h. absurd (false≢true h), not_queued)) in
        index_closed g s new f.belongs
        (next_looked g s move [] old new notes
        (next_looked g s Take (move ∷ []) old old (nothing_noted Take (λ k t. t) (λ k t. t) (λ k t. t)) (index_open g before w (claimed_unit w u) s old (follows f))))

  module _ {to : Mark} (f : FollowsOn g before w (closed_unit w u to) s old) where
    pub close_within : u < g.units
    close_within =
        let there : u < length s.units = named_after g before w (closed_unit w u to) s old 0 Give (follows f) (omega arith) in
        let same = f.belongs.units in
        omega (arith, there, same)

    pub close_room : u < room_of old.open_units
    close_room = omega (arith, close_within, f.index.made.units)

    -- it ran, and is marked so
    was_running : mark_of before (UnitOf u) ≡ Running w
    was_running =
        let first = and_parts (can before w (Move (UnitOf u) (Running w) to)) (can_all (make before w (Move (UnitOf u) (Running w) to)) w (Give ∷ [])) f.led.possible in
        same_mark_is (mark_of before (UnitOf u)) (Running w) (and_parts _ _ (and_parts _ _ (and_parts _ _ first.0).0).0).0

    close_marks : mark_of s (UnitOf u) ≡ to
    close_marks =
        let there : u < length before.units = all_at before (closed_unit w u to) 0 Give f.led.named (omega arith) in
        ap (λ (t : StateView). mark_of t (UnitOf u)) f.led.state ∙ get_or-set_same before.units u to Waiting there

    -- it wasn't queued, nor is it
    queued_as_before : has_ended to ≡ true → (set : NumberSetView) → NoNumber u ⊎ IsRightAt (IsQueued g before) set u → IsRightAt (IsQueued g s) set u
    queued_as_before ended set (inl none) = absurd none
    queued_as_before ended set (inr is) = (
      λ h. let e = sym was_running ∙ (is.0 h).queued in absurd (cc),
      λ q. absurd (true≢false (sym ended ∙ ap has_ended (sym close_marks ∙ q.queued))),
    )

    pub index_of_close : has_ended to ≡ true → (left : NumberSetView) → room_of left ≡ room_of old.open_units → has left u ≡ false → ((k : ℕ) → (k ≡ u → ⊥) → has left k ≡ has old.open_units k)
        → IsIndexOf g s (record old { open_units = left })
    index_of_close ended left room put others =
        let move : Change = Move (UnitOf u) (Running w) to in
        let new : ReadyWork = record old { open_units = left } in
        let not_open : IsOpenUnit g s u → false ≡ true = λ o. absurd (true≢false (sym (ap has_ended close_marks ∙ ended) ∙ o.unended)) in
        let notes : Notes g s move old new =
        noted_unit g s u (Running w) to old new refl (looks_put (IsOpenUnit g s) u false old.open_units left room put others (λ h. absurd (false≢true h), not_open))
        (right_where_kept (IsQueued g s) u old.queued (IfSome_then old.queued f.index.queued (λ set is. queued_as_before ended set (is.each u)))) in
        index_closed g s new f.belongs
        (next_looked g s Give [] new new (nothing_noted Give (λ k t. t) (λ k t. t) (λ k t. t))
        (next_looked g s move (Give ∷ []) old new notes (index_open g before w (closed_unit w u to) s old (follows f))))
