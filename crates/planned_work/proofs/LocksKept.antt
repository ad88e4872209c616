-- Changes by which a worker still has a lock, owned or parked.
use Rattle.std.proofs.Common.{◌≡◌, ◌⊎◌, ◌+◌, ◌-◌, Bool, true, false, ◌||◌, eqb, List, [], ◌∷◌, ◌++◌, length, None, Some, inl, inr, refl, sym, ap, ◌∙◌, subst, arith}
use Rattle.std.specs.Prelude.{reverse}
use Rattle.std.specs.List.{AllByRecursion, slice_index_or}
use Rattle.std.proofs.lemmas.Bool.{and_parts, cases_eq, eq-eqb, eqb-true, or_cases}
use Rattle.std.proofs.lemmas.List.{get_or-set_other, get_or-set_same, length-reverse, length-take-le}
use Rattle.std.proofs.lemmas.List.Folds.{list_any-append}
use Rattle.lock_journal.specs.Names.{can, can_all, holding_after, make, make_all, stands_last, without_last, NamesOnly, Holding, StateView}
use Rattle.lock_journal.specs.Names.{holding_of, is_owner, owns, stands_in, IsLockOf, IsWorkerOf, Change, Lock, Unlock, Take, Give, Move, ParkLock}
use Rattle.lock_journal.specs.Names.{Unpark, Enter, Leave, LockId, WorkerId, TaskOf, ActionOf, UnitOf, parked_locks, taken_again, after_all}
use Rattle.resource_lock.proofs.lemmas.Runs.{same_shape-make, worker_along, all_named_along}
use Rattle.resource_lock.proofs.lemmas.Undo.{last_from, same_lock}
use Rattle.lock_journal.proofs.lemmas.OwnChanges.{own_holding}
use Rattle.async_tracker.proofs.Parking.{stands_in-last}
use Rattle.planned_work.specs.InPlace.{HasLock}

-- neither locks nor parks, nor takes back what it did
abbrev pub LeavesLocks : Change → Type 0
LeavesLocks (Lock l) = ⊥
LeavesLocks (Unlock l) = ⊥
LeavesLocks (ParkLock l) = ⊥
LeavesLocks (Unpark l) = ⊥
LeavesLocks _ = Unit {0}

abbrev pub ParksNothing : Change → Type 0
ParksNothing (ParkLock l) = ⊥
ParksNothing (Unpark l) = ⊥
ParksNothing _ = Unit {0}

-- what is parked stays
stays_parked : (h : Holding) (c : Change) → ParksNothing c → (holding_after h c).parked ≡ h.parked
stays_parked h (Lock l) p = refl
stays_parked h (Unlock l) p = refl
stays_parked h Take p = refl
stays_parked h Give p = refl
stays_parked h (Move m from to) p = refl
stays_parked h (ParkLock l) p = absurd p
stays_parked h (Unpark l) p = absurd p
stays_parked h Enter p = refl
stays_parked h Leave p = refl

pub parked_stays : (h : Holding) (cs : List Change) → AllByRecursion ParksNothing cs → (after_all holding_after h cs).parked ≡ h.parked
parked_stays h [] p = refl
parked_stays h (c ∷ cs) p = parked_stays (holding_after h c) cs p.1 ∙ stays_parked h c p.0

-- a lock is had as before where its owner and what is parked are the same
same_lock_had : (s t : StateView) (w : WorkerId) (l : LockId) → owns t w l ≡ owns s w l → (holding_of t w).parked ≡ (holding_of s w).parked → HasLock s w l → HasLock t w l
same_lock_had s t w l owner parked (inl own) = inl (owner ∙ own)
same_lock_had s t w l owner parked (inr has) = inr (ap (stands_in l) parked ∙ has)

owns_stays : (s : StateView) (w v : WorkerId) (l : LockId) (c : Change) → LeavesLocks c → owns (make s w c) v l ≡ owns s v l
owns_stays s w v l (Lock k) p = absurd p
owns_stays s w v l (Unlock k) p = absurd p
owns_stays s w v l Take p = refl
owns_stays s w v l Give p = refl
owns_stays s w v l (Move (TaskOf t) from to) p = refl
owns_stays s w v l (Move (ActionOf a) from to) p = refl
owns_stays s w v l (Move (UnitOf u) from to) p = refl
owns_stays s w v l (ParkLock k) p = absurd p
owns_stays s w v l (Unpark k) p = absurd p
owns_stays s w v l Enter p = refl
owns_stays s w v l Leave p = refl

parks_nothing : (c : Change) → LeavesLocks c → ParksNothing c
parks_nothing (Lock k) p = absurd p
parks_nothing (Unlock k) p = absurd p
parks_nothing Take p = tt
parks_nothing Give p = tt
parks_nothing (Move m from to) p = tt
parks_nothing (ParkLock k) p = absurd p
parks_nothing (Unpark k) p = absurd p
parks_nothing Enter p = tt
parks_nothing Leave p = tt

pub had_after : (s : StateView) (w : WorkerId) (l : LockId) (cs : List Change) → IsWorkerOf s w → AllByRecursion LeavesLocks cs → HasLock s w l → HasLock (make_all s w cs) w l
had_after s w l [] worker p has = has
had_after s w l (c ∷ cs) worker p has =
    had_after (make s w c) w l cs (worker_along s (make s w c) w (same_shape-make s w c) worker) p.1
    (same_lock_had s (make s w c) w l (owns_stays s w w l c p.0) (ap (λ (h : Holding). h.parked) (own_holding s w c worker) ∙ stays_parked (holding_of s w) c (parks_nothing c p.0)) has)

-- a lock that is given back and parked
pub had_parking : (s : StateView) (w : WorkerId) (l k : LockId) → IsWorkerOf s w → HasLock s w l → HasLock (make (make s w (Unlock k)) w (ParkLock k)) w l
had_parking s w l k worker has = at has (cases_eq k.0 l.0)
  where
    after : StateView
    after = make (make s w (Unlock k)) w (ParkLock k)

    parked : (holding_of after w).parked ≡ (holding_of s w).parked ++ k ∷ []
    parked = ap (λ (h : Holding). h.parked) (own_holding (make s w (Unlock k)) w (ParkLock k) worker)

    at : HasLock s w l → (k.0 ≡ l.0) ⊎ (k.0 ≡ l.0 → ⊥) → HasLock after w l
    at (inl own) (inl same) = inr (ap (stands_in l) parked ∙ (subst (λ (x : LockId). stands_in l ((holding_of s w).parked ++ x ∷ []) ≡ true) (same_lock l k (sym same)) (stands_in-last l (holding_of s w).parked)))
    at (inl own) (inr other) = inl (ap (λ o. is_owner o w) (get_or-set_other s.owners k.0 l.0 None None (λ e. other (sym e))) ∙ own)
    at (inr had) c = inr (ap (stands_in l) parked ∙ (list_any-append (λ (x : LockId). eqb x.0 l.0) (holding_of s w).parked (k ∷ []) ∙ ap (λ b. b || (eqb k.0 l.0 || false)) had))

pub had_all_parked : (s : StateView) (w : WorkerId) (l : LockId) (ks : List LockId) → IsWorkerOf s w → HasLock s w l → HasLock (make_all s w (parked_locks ks)) w l
had_all_parked s w l [] worker has = has
had_all_parked s w l (k ∷ ks) worker has =
    had_all_parked (make (make s w (Unlock k)) w (ParkLock k)) w l ks
    (worker_along (make s w (Unlock k)) (make (make s w (Unlock k)) w (ParkLock k)) w (same_shape-make (make s w (Unlock k)) w (ParkLock k)) worker) (had_parking s w l k worker has)

or_false : (b : Bool) → (b || false) ≡ true → b ≡ true
or_false true h = refl
or_false false h = h

-- and one that is taken again
pub had_taking : (s : StateView) (w : WorkerId) (l k : LockId) → IsWorkerOf s w → IsLockOf s k → stands_last k (holding_of s w).parked ≡ true → HasLock s w l → HasLock (make (make s w (Unpark k)) w (Lock k)) w l
had_taking s w l k worker lock last has = at has (cases_eq k.0 l.0)
  where
    after : StateView
    after = make (make s w (Unpark k)) w (Lock k)

    parked : (holding_of after w).parked ≡ without_last (holding_of s w).parked
    parked = ap (λ (h : Holding). h.parked) (own_holding s w (Unpark k) worker)

    owned : k.0 ≡ l.0 → owns after w l ≡ true
    owned same =
        subst (λ n. is_owner (slice_index_or after.owners n None) w ≡ true) same
        (ap (λ o. is_owner o w) (get_or-set_same s.owners k.0 (Some w) None lock) ∙ eq-eqb w.0 w.0 refl)

    stood : stands_in l (holding_of s w).parked ≡ true → (stands_in l (without_last (holding_of s w).parked) || (eqb k.0 l.0 || false)) ≡ true
    stood had = sym (list_any-append (λ (x : LockId). eqb x.0 l.0) (without_last (holding_of s w).parked) (k ∷ [])) ∙ (ap (stands_in l) (last_from (holding_of s w).parked k last) ∙ had)

    found : (stands_in l (without_last (holding_of s w).parked) ≡ true) ⊎ ((eqb k.0 l.0 || false) ≡ true) → HasLock after w l
    found (inl left) = inr (ap (stands_in l) parked ∙ left)
    found (inr here) = inl (owned (eqb-true k.0 l.0 (or_false (eqb k.0 l.0) here)))

    at : HasLock s w l → (k.0 ≡ l.0) ⊎ (k.0 ≡ l.0 → ⊥) → HasLock after w l
    at (inl own) (inl same) = inl (owned same)
    at (inl own) (inr other) = inl (ap (λ o. is_owner o w) (get_or-set_other s.owners k.0 l.0 (Some w) None (λ e. other (sym e))) ∙ own)
    at (inr had) c = found (or_cases (stands_in l (without_last (holding_of s w).parked)) (eqb k.0 l.0 || false) (stood had))

pub had_all_taken : (s : StateView) (w : WorkerId) (l : LockId) (ks : List LockId) → IsWorkerOf s w → AllByRecursion (NamesOnly s) (taken_again ks) → can_all s w (taken_again ks) ≡ true → HasLock s w l
    → HasLock (make_all s w (taken_again ks)) w l
had_all_taken s w l [] worker named possible has = has
had_all_taken s w l (k ∷ ks) worker named possible has =
    let one : StateView = make s w (Unpark k) in
    let two : StateView = make one w (Lock k) in
    let p = and_parts (stands_last k (holding_of s w).parked) (can_all one w (Lock k ∷ taken_again ks)) possible in
    let q = and_parts (can one w (Lock k)) (can_all two w (taken_again ks)) p.1 in
    let there : IsWorkerOf one w = worker_along s one w (same_shape-make s w (Unpark k)) worker in
    had_all_taken two w l ks there
    (all_named_along one two (taken_again ks) (same_shape-make one w (Lock k)) (all_named_along s one (taken_again ks) (same_shape-make s w (Unpark k)) named.1.1)) q.1
    (had_taking s w l k worker named.0 p.0 has)

-- all parked locks taken again, none is left
length-again : (h : Holding) (ks : List LockId) → length (after_all holding_after h (taken_again ks)).parked ≡ length h.parked - length ks
length-again h [] = omega arith
length-again h (k ∷ ks) =
    let one : length (without_last h.parked) ≡ length h.parked - 1 = length-take-le (length h.parked - 1) h.parked (omega arith) in
    omega (arith, length-again (record h { parked = without_last h.parked }) ks, one)

none_left : {X : Type 0} (xs : List X) → length xs ≡ 0 → xs ≡ []
none_left [] h = refl
none_left (x ∷ xs) h = absurd (omega (arith, h))

pub after_all-append : (h : Holding) (cs ds : List Change) → after_all holding_after h (cs ++ ds) ≡ after_all holding_after (after_all holding_after h cs) ds
after_all-append h [] ds = refl
after_all-append h (c ∷ cs) ds = after_all-append (holding_after h c) cs ds

pub none_parked : (h : Holding) → (after_all holding_after h (taken_again (reverse h.parked))).parked ≡ []
none_parked h = none_left _ (omega (arith, length-again h (reverse h.parked), length-reverse h.parked))
