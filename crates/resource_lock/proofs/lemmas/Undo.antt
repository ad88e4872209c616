-- A change that can be made is undone by its inverse.
use Rattle.std.proofs.Common.{◌≡◌, ℕ, ◌-◌, length, List, [], ◌∷◌, ◌++◌, true, false, not, ◌&&◌, ltb, refl, sym, ◌∙◌, ap, arith, Option, None, Some}
use Rattle.std.specs.Option.{is_none}
use Rattle.std.specs.List.{slice_get}
use Rattle.std.proofs.lemmas.Bool.{and_parts, not-true, eqb-true}
use Rattle.std.proofs.lemmas.List.{get_or-set_same, take_at, length_push}
use Rattle.resource_lock.proofs.lemmas.Lists.{set_back, last_back}
use Rattle.resource_lock.specs.StateView.{StateView, Holding, empty_holding, holding_of, owner_of, kept_from, is_owner, leases_out, mark_of, has_parked, IsWorkerOf}
use Rattle.resource_lock.specs.Change.{same_mark, names_only, is_lock, stands_last, without_last, can, make, holding_after, inverse_of, with_holding, with_owner, with_mark}
use Rattle.resource_lock.specs.declared.ids.LockId.{LockId}
use Rattle.resource_lock.specs.declared.ids.WorkerId.{WorkerId}
use Rattle.resource_lock.specs.declared.marks.Mark.{Mark}
use Rattle.resource_lock.specs.declared.marks.Mark.TheVariants.{Waiting, Queued, Running, Passed, Failed, Skipped}
use Rattle.resource_lock.specs.declared.marks.MarkId.{MarkId}
use Rattle.resource_lock.specs.declared.marks.MarkId.TheVariants.{Task as TaskOf, Action as ActionOf, Unit as UnitOf}
use Rattle.resource_lock.specs.declared.changes.Change.{Change}
use Rattle.resource_lock.specs.declared.changes.Change.TheVariants.{Lock, Unlock, Take, Give, Move, Park, Unpark, Enter, Leave}

pub same_worker : (v w : WorkerId) → v.0 ≡ w.0 → v ≡ w
same_worker v w e = let of : ℕ → WorkerId = λ n. record { 0 = n } in ap of e

pub same_lock : (k l : LockId) → k.0 ≡ l.0 → k ≡ l
same_lock k l e = let of : ℕ → LockId = λ n. record { 0 = n } in ap of e

-- marks that the test finds the same are
pub same_mark_is : (a b : Mark) → same_mark a b ≡ true → a ≡ b
same_mark_is Waiting Waiting h = refl
same_mark_is Queued Queued h = refl
same_mark_is (Running v) (Running w) h = ap Running (same_worker v w (eqb-true v.0 w.0 h))
same_mark_is Passed Passed h = refl
same_mark_is Failed Failed h = refl
same_mark_is Skipped Skipped h = refl
same_mark_is _ _ h = cc

-- the holding of the worker that was written
pub holding_now : (s : StateView) (w : WorkerId) (h : Holding) → IsWorkerOf s w → holding_of (with_holding s w h) w ≡ h
holding_now s w h within = get_or-set_same s.holdings w.0 h empty_holding within

-- a worker's holding, put back
holding_back : (s : StateView) (w : WorkerId) (h : Holding) → with_holding (with_holding s w h) w (holding_of s w) ≡ s
holding_back s w h = ap (λ holdings. record s { holdings = holdings }) (set_back s.holdings w.0 empty_holding h (holding_of s w) refl)

owner_back : (s : StateView) (l : LockId) (a b : Option WorkerId) → owner_of s l ≡ b → with_owner (with_owner s l a) l b ≡ s
owner_back s l a b e = ap (λ owners. record s { owners = owners }) (set_back s.owners l.0 None a b e)

mark_back : (s : StateView) (m : MarkId) (a b : Mark) → mark_of s m ≡ b → with_mark (with_mark s m a) m b ≡ s
mark_back s (TaskOf t) a b e = ap (λ marks. record s { tasks = marks }) (set_back s.tasks t Waiting a b e)
mark_back s (ActionOf t) a b e = ap (λ marks. record s { actions = marks }) (set_back s.actions t Waiting a b e)
mark_back s (UnitOf t) a b e = ap (λ marks. record s { units = marks }) (set_back s.units t Waiting a b e)

-- a change of the worker's holding, and its inverse, in a state of which the worker is one
holding_undone : (s : StateView) (w : WorkerId) (h' : Holding) (f : Holding → Holding) → IsWorkerOf s w → f h' ≡ holding_of s w → with_holding (with_holding s w h') w (f (holding_of (with_holding s w h') w)) ≡ s
holding_undone s w h' f within e =
    ap (λ h. with_holding (with_holding s w h') w (f h)) (holding_now s w h' within)
    ∙ ap (λ h. with_holding (with_holding s w h') w h) e
    ∙ holding_back s w h'

pub none_from : {X : Type 0} (o : Option X) → is_none o ≡ true → o ≡ None
none_from None h = refl
none_from (Some x) h = cc

pub owner_from : (o : Option WorkerId) (w : WorkerId) → is_owner o w ≡ true → o ≡ Some w
owner_from None w h = cc
owner_from (Some v) w h = ap Some (same_worker v w (eqb-true v.0 w.0 h))

lock_from : (o : Option LockId) (l : LockId) → is_lock o l ≡ true → o ≡ Some l
lock_from None l h = cc
lock_from (Some k) l h = ap Some (same_lock k l (eqb-true k.0 l.0 h))

-- the last lock is the one that was put there
pub last_from : (locks : List LockId) (l : LockId) → stands_last l locks ≡ true → without_last locks ++ l ∷ [] ≡ locks
last_from locks l h = last_back locks l (lock_from (slice_get locks (length locks - 1)) l h)

pub without_last-push : (locks : List LockId) (l : LockId) → without_last (locks ++ l ∷ []) ≡ locks
without_last-push locks l = take_at locks (l ∷ []) (length (locks ++ l ∷ []) - 1) (omega (arith, length_push locks l))

-- What a worker's change made, its inverse takes back.
pub undone : (s : StateView) (w : WorkerId) (c : Change) → IsWorkerOf s w → can s w c ≡ true → make (make s w c) w (inverse_of c) ≡ s
undone s w (Lock l) within h = owner_back s l (Some w) None (none_from (owner_of s l) (and_parts (is_none (owner_of s l)) (not (kept_from s w l)) (and_parts (is_none (owner_of s l) && not (kept_from s w l)) (not (has_parked s w l)) h).0).0)
undone s w (Unlock l) within h = owner_back s l None (Some w) (owner_from (owner_of s l) w h)
undone s w Take within h =
    let first : (not (holding_of s w).lease && not (holding_of s w).blocked) ≡ true = (and_parts _ (ltb (leases_out s) s.max_leases) h).0 in
    let without : (holding_of s w).lease ≡ false = not-true (holding_of s w).lease (and_parts (not (holding_of s w).lease) (not (holding_of s w).blocked) first).0 in
    holding_undone s w (holding_after (holding_of s w) Take) (λ x. holding_after x Give) within (ap (λ b. record (holding_of s w) { lease = b }) (sym without))
undone s w Give within h = holding_undone s w (holding_after (holding_of s w) Give) (λ x. holding_after x Take) within (ap (λ b. record (holding_of s w) { lease = b }) (sym h))
undone s w (Move m from to) within h =
    let first : (same_mark (mark_of s m) from && not (same_mark from to) && names_only from w) ≡ true = (and_parts _ (names_only to w) h).0 in
    let second : (same_mark (mark_of s m) from && not (same_mark from to)) ≡ true = (and_parts _ (names_only from w) first).0 in
    mark_back s m to from (same_mark_is (mark_of s m) from (and_parts _ (not (same_mark from to)) second).0)
undone s w (Park l) within h = holding_undone s w (holding_after (holding_of s w) (Park l)) (λ x. holding_after x (Unpark l)) within (ap (λ locks. record (holding_of s w) { parked = locks }) (without_last-push (holding_of s w).parked l))
undone s w (Unpark l) within h = holding_undone s w (holding_after (holding_of s w) (Unpark l)) (λ x. holding_after x (Park l)) within (ap (λ locks. record (holding_of s w) { parked = locks }) (last_from (holding_of s w).parked l h))
undone s w Enter within h =
    let free : (holding_of s w).blocked ≡ false = not-true (holding_of s w).blocked (and_parts (not (holding_of s w).blocked) (not (holding_of s w).lease) h).0 in
    holding_undone s w (holding_after (holding_of s w) Enter) (λ x. holding_after x Leave) within (ap (λ b. record (holding_of s w) { blocked = b }) (sym free))
undone s w Leave within h = holding_undone s w (holding_after (holding_of s w) Leave) (λ x. holding_after x Enter) within (ap (λ b. record (holding_of s w) { blocked = b }) (sym h))
