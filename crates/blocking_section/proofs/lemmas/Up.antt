-- A worker that takes up again what it has parked, and a lease.
use Rattle.std.proofs.Common.{◌≡◌, ◌≢◌, ℕ, ◌+◌, ◌-◌, ◌<◌, ◌≤◌, length, Bool, true, false, not, ◌&&◌, ◌||◌, cond, eqb, List, [], ◌∷◌, ◌++◌, reverse, None, Some, inl, inr, refl, sym, ap, ◌∙◌, arith}
use Rattle.std.specs.Prelude.{nat_le, nat_lt, is_none, slice_get}
use Rattle.std.specs.List.{list_all}
use Rattle.std.proofs.lemmas.Bool.{and_from, and_parts, cases_Bool, eq-eqb, eqb-true, false≢true, false_from_ne_true, le-ltb, leb-true, lt-ltb, ltb-true, not-true, not_from_false, or_right}
use Rattle.std.proofs.lemmas.List.{get_or-set_other, length_push, get_or_push, reverse-append}
use Rattle.std.proofs.lemmas.List.Folds.{list_any-append}
use Rattle.std.proofs.lemmas.Option.{slice_get-get_or}
use Rattle.lock_journal.specs.Names.{can, can_all, holding_after, make, make_all, names_only, same_mark, stands_last, without_last, Good, GraphView}
use Rattle.lock_journal.specs.Names.{Holding, StateView, has_parked, holding_of, kept_from, leases_out, mark_of, owner_of, owns, runs_by, runs_unit}
use Rattle.lock_journal.specs.Names.{stands_in, IsLockOf, IsWorkerOf, can_lease, Change, Lock, Take, Move, Unpark, Leave, LockId, WorkerId, Mark}
use Rattle.lock_journal.specs.Names.{Running, MarkId, UnitOf, condition, is_enabled, list_of, mark_from, taken_again, taken_up, can_take_all, rises}
use Rattle.lock_journal.specs.Names.{Closed, Unblock, after_all, claimed_after, lock_before, locks_after, with_member}
use Rattle.resource_lock.specs.Change.{is_lock}
use Rattle.resource_lock.specs.StateView.{each_once}
use Rattle.resource_lock.specs.Trying.{can_own}
use Rattle.resource_lock.proofs.lemmas.Kept.{kept, leases-with_holding}
use Rattle.resource_lock.proofs.lemmas.Lists.{each_once-front}
use Rattle.resource_lock.proofs.lemmas.Runs.{can_all-append, named_along, same_shape-make, same_shape-make_all, worker_along}
use Rattle.resource_lock.proofs.lemmas.Alone.{kept_same}
use Rattle.resource_lock.proofs.lemmas.Undo.{holding_now, none_from, same_lock, without_last-push}
use Rattle.lock_transforms.proofs.lemmas.Locking.{free_lock}
use Rattle.item_actions.specs.declared.outcomes.Outcome.{Outcome}
use Rattle.item_actions.specs.declared.outcomes.Outcome.TheVariants as outcomes
use Rattle.lock_journal.proofs.lemmas.OwnChanges.{own_holding_all}
use Rattle.blocking_section.proofs.After.{after_all-append}

-- lists backwards
reverse-cons : {X : Type 0} (x : X) (xs : List X) → reverse (x ∷ xs) ≡ reverse xs ++ x ∷ []
reverse-cons x xs = reverse-append (x ∷ []) xs

pub reverse_twice : {X : Type 0} (xs : List X) → reverse (reverse xs) ≡ xs
reverse_twice [] = refl
reverse_twice (x ∷ xs) = ap reverse (reverse-cons x xs) ∙ (reverse-append (reverse xs) (x ∷ []) ∙ ap (λ (l : List _). x ∷ l) (reverse_twice xs))

or_swapped : (a b : Bool) → (a || (b || false)) ≡ (b || a)
or_swapped true true = refl
or_swapped true false = refl
or_swapped false true = refl
or_swapped false false = refl

pub stands_reversed : (l : LockId) (ls : List LockId) → stands_in l (reverse ls) ≡ stands_in l ls
stands_reversed l [] = refl
stands_reversed l (k ∷ ks) =
    ap (stands_in l) (reverse-cons k ks)
    ∙ (list_any-append (λ j. eqb j.0 l.0) (reverse ks) (k ∷ [])
    ∙ (or_swapped (stands_in l (reverse ks)) (eqb k.0 l.0) ∙ ap (λ b. eqb k.0 l.0 || b) (stands_reversed l ks)))

all_stand : (p : LockId → Bool) (l : LockId) (ls : List LockId) → list_all p ls ≡ true → stands_in l ls ≡ true → p l ≡ true
all_stand p l [] h there = absurd (false≢true there)
all_stand p l (k ∷ ks) h there =
    let both = and_parts (p k) (list_all p ks) h in
    elim (cases_Bool (eqb k.0 l.0)) [
      | inl same ↦ ap p (sym (same_lock k l (eqb-true k.0 l.0 same))) ∙ both.0
      | inr other ↦ all_stand p l ks both.1 (sym (ap (λ b. b || stands_in l ks) other) ∙ there)
    ]

stands_last-push : (ls : List LockId) (l : LockId) → stands_last l (ls ++ l ∷ []) ≡ true
stands_last-push ls l =
    let long : length (ls ++ l ∷ []) - 1 ≡ length ls = omega (arith, length_push ls l) in
    let at : slice_get (ls ++ l ∷ []) (length (ls ++ l ∷ []) - 1) ≡ Some l =
    ap (slice_get (ls ++ l ∷ [])) long ∙ (slice_get-get_or (ls ++ l ∷ []) (length ls) l (omega (arith, length_push ls l)) ∙ ap Some (get_or_push ls l l (length ls) refl)) in
    ap (λ o. is_lock o l) at ∙ eq-eqb l.0 l.0 refl

-- one lock taken again
abbrev take_on : StateView → WorkerId → LockId → StateView
take_on s w l = make (make s w (Unpark l)) w (Lock l)

record IsTakenOn (s : StateView) (w : WorkerId) (l : LockId) (ls : List LockId) : Type 0 where
  unparks : can s w (Unpark l) ≡ true
  locks : can (make s w (Unpark l)) w (Lock l) ≡ true
  worker : IsWorkerOf (take_on s w l) w
  good : Good (take_on s w l)
  parked : (holding_of (take_on s w l) w).parked ≡ reverse ls
  free : (k : LockId) → stands_in k ls ≡ true → is_none (owner_of (take_on s w l) k) ≡ true
  open' : (k : LockId) → stands_in k ls ≡ true → kept_from (take_on s w l) w k ≡ false

takes_on : (s : StateView) (w : WorkerId) (l : LockId) (ls : List LockId) → IsWorkerOf s w → Good s → (holding_of s w).parked ≡ reverse (l ∷ ls) → ((k : LockId) → stands_in k (l ∷ ls) ≡ true → is_none (owner_of s k) ≡ true) → ((k : LockId) → stands_in k (l ∷ ls) ≡ true → kept_from s w k ≡ false) → IsTakenOn s w l ls
takes_on s w l ls worker good parked free open' =
    let front : (holding_of s w).parked ≡ reverse ls ++ l ∷ [] = parked ∙ reverse-cons l ls in
    let unparks : can s w (Unpark l) ≡ true = ap (stands_last l) front ∙ stands_last-push (reverse ls) l in
    let first : stands_in l (l ∷ ls) ≡ true = ap (λ b. b || stands_in l ls) (eq-eqb l.0 l.0 refl) in
    let has : has_parked s w l ≡ true = ap (stands_in l) parked ∙ (stands_reversed l (l ∷ ls) ∙ first) in
    let there : IsLockOf s l = good.parked_locks w l has in
    let worker_now : IsWorkerOf (make s w (Unpark l)) w = worker_along s (make s w (Unpark l)) w (same_shape-make s w (Unpark l)) worker in
    let good_now : Good (make s w (Unpark l)) = kept s w (Unpark l) worker there good unparks in
    let left : (holding_of (make s w (Unpark l)) w).parked ≡ reverse ls =
    ap (λ (h : Holding). h.parked) (holding_now s w (holding_after (holding_of s w) (Unpark l)) worker) ∙ (ap without_last front ∙ without_last-push (reverse ls) l) in
    let absent : stands_in l (reverse ls) ≡ false = (each_once-front (reverse ls) l (ap each_once (sym front) ∙ good.parked_once w)).1 in
    let locks : can (make s w (Unpark l)) w (Lock l) ≡ true =
    and_from (is_none (owner_of s l) && not (kept_from s w l)) (not (has_parked (make s w (Unpark l)) w l))
    (and_from (is_none (owner_of s l)) (not (kept_from s w l)) (free l first) (not_from_false (kept_from s w l) (open' l first)))
    (not_from_false (has_parked (make s w (Unpark l)) w l) (ap (stands_in l) left ∙ absent)) in
    record {
      unparks = unparks;
      locks = locks;
      worker = worker_along (make s w (Unpark l)) (take_on s w l) w (same_shape-make (make s w (Unpark l)) w (Lock l)) worker_now;
      good = kept (make s w (Unpark l)) w (Lock l) worker_now (named_along s (make s w (Unpark l)) (Lock l) (same_shape-make s w (Unpark l)) there) good_now locks;
      parked = left;
      free = λ k stands.
          let apart : k.0 ≢ l.0 = λ same. false≢true (sym absent ∙ (stands_reversed l ls ∙ (ap (λ j. stands_in j ls) (sym (same_lock k l same)) ∙ stands))) in
          ap is_none (get_or-set_other s.owners l.0 k.0 (Some w) None apart) ∙ free k (or_right (eqb l.0 k.0) (stands_in k ls) stands);
      open' = λ k stands. kept_same (make s w (Unpark l)) w l k (none_from (owner_of s l) (free l first)) ∙ open' k (or_right (eqb l.0 k.0) (stands_in k ls) stands);
    }

can_take_again : (ls : List LockId) (s : StateView) (w : WorkerId) → IsWorkerOf s w → Good s → (holding_of s w).parked ≡ reverse ls → ((k : LockId) → stands_in k ls ≡ true → is_none (owner_of s k) ≡ true) → ((k : LockId) → stands_in k ls ≡ true → kept_from s w k ≡ false) → can_all s w (taken_again ls) ≡ true
can_take_again [] s w worker good parked free open' = refl
can_take_again (l ∷ ls) s w worker good parked free open' =
    let on = takes_on s w l ls worker good parked free open' in
    and_from (can s w (Unpark l)) (can_all (make s w (Unpark l)) w (Lock l ∷ taken_again ls)) on.unparks
    (and_from (can (make s w (Unpark l)) w (Lock l)) (can_all (take_on s w l) w (taken_again ls)) on.locks (can_take_again ls (take_on s w l) w on.worker on.good on.parked on.free on.open'))

-- what is left of it
after_again : (h : Holding) (ls : List LockId) → h.parked ≡ reverse ls → after_all holding_after h (taken_again ls) ≡ record h { parked = [] }
after_again h [] is = ap (λ (ps : List LockId). record h { parked = ps }) is
after_again h (l ∷ ls) is = after_again (record h { parked = without_last h.parked }) ls (ap without_last (is ∙ reverse-cons l ls) ∙ without_last-push (reverse ls) l)

abbrev pub up : List LockId → List Change
up ls = Leave ∷ taken_again (reverse ls) ++ Take ∷ []

pub up_holding : (h : Holding) → after_all holding_after h (up h.parked) ≡ record { lease = true; parked = []; blocked = false }
up_holding h = after_all-append holding_after (record h { blocked = false }) (taken_again (reverse h.parked)) (Take ∷ [])
    ∙ ap (λ (x : Holding). record x { lease = true }) (after_again (record h { blocked = false }) (reverse h.parked) (sym (reverse_twice h.parked)))

stands_with : (l k : LockId) (ls : List LockId) → stands_in l (with_member lock_before k ls) ≡ (eqb k.0 l.0 || stands_in l ls)
stands_with l k [] = refl
stands_with l k (j ∷ ls) = elim (cases_Bool (lock_before j k)) [
  | inl earlier ↦ ap (λ b. stands_in l (cond b (j ∷ with_member lock_before k ls) (k ∷ j ∷ ls))) earlier ∙ (ap (λ b. eqb j.0 l.0 || b) (stands_with l k ls) ∙ swapped (eqb j.0 l.0) (eqb k.0 l.0) (stands_in l ls))
  | inr later ↦ ap (λ b. stands_in l (cond b (j ∷ with_member lock_before k ls) (k ∷ j ∷ ls))) later
]
  where
    swapped : (a b c : Bool) → (a || (b || c)) ≡ (b || (a || c))
    swapped true true c = refl
    swapped true false c = refl
    swapped false true c = refl
    swapped false false c = refl

again_stands : (l : LockId) (ks ls : List LockId) → stands_in l (after_all locks_after ls (taken_again ks)) ≡ (stands_in l ks || stands_in l ls)
again_stands l [] ls = refl
again_stands l (k ∷ ks) ls = again_stands l ks (with_member lock_before k ls) ∙ (ap (λ b. stands_in l ks || b) (stands_with l k ls) ∙ turned (stands_in l ks) (eqb k.0 l.0) (stands_in l ls))
  where
    turned : (a b c : Bool) → (a || (b || c)) ≡ ((b || a) || c)
    turned true true c = refl
    turned true false c = refl
    turned false true c = refl
    turned false false c = refl

pub up_stands : (l : LockId) (ps ls : List LockId) → stands_in l (after_all locks_after ls (up ps)) ≡ (stands_in l ps || stands_in l ls)
up_stands l ps ls = ap (stands_in l) (after_all-append locks_after ls (taken_again (reverse ps)) (Take ∷ [])) ∙ (again_stands l (reverse ps) ls ∙ ap (λ b. b || stands_in l ls) (stands_reversed l ps))

-- locks that rise are taken from the last to the first, and then stand as they stood
taken_again-append : (ls ks : List LockId) → taken_again (ls ++ ks) ≡ taken_again ls ++ taken_again ks
taken_again-append [] ks = refl
taken_again-append (l ∷ ls) ks = ap (λ (cs : List Change). Unpark l ∷ Lock l ∷ cs) (taken_again-append ls ks)

first_in : (l : LockId) (ls : List LockId) → rises (l.0 + 1) ls ≡ true → with_member lock_before l ls ≡ l ∷ ls
first_in l [] h = refl
first_in l (k ∷ ks) h =
    let above : l.0 + 1 ≤ k.0 = leb-true (l.0 + 1) k.0 (and_parts (nat_le (l.0 + 1) k.0) (rises (k.0 + 1) ks) h).0 in
    ap (λ b. cond b (k ∷ with_member lock_before l ks) (l ∷ k ∷ ks)) (le-ltb k.0 l.0 (omega arith))

again_rises : (low : ℕ) (ls : List LockId) → rises low ls ≡ true → after_all locks_after [] (taken_again (reverse ls)) ≡ ls
again_rises low [] h = refl
again_rises low (l ∷ ls) h =
    let p = and_parts (nat_le low l.0) (rises (l.0 + 1) ls) h in
    ap (λ (ks : List LockId). after_all locks_after [] (taken_again ks)) (reverse-cons l ls)
    ∙ (ap (after_all locks_after []) (taken_again-append (reverse ls) (l ∷ []))
    ∙ (after_all-append locks_after [] (taken_again (reverse ls)) (taken_again (l ∷ []))
    ∙ (ap (with_member lock_before l) (again_rises (l.0 + 1) ls p.1) ∙ first_in l ls p.1)))

pub up_rises : (low : ℕ) (ls : List LockId) → rises low ls ≡ true → after_all locks_after [] (up ls) ≡ ls
up_rises low ls h = after_all-append locks_after [] (taken_again (reverse ls)) (Take ∷ []) ∙ again_rises low ls h

again_marks : (w : WorkerId) (ms : List MarkId) (ls : List LockId) → after_all (claimed_after w) ms (taken_again ls) ≡ ms
again_marks w ms [] = refl
again_marks w ms (l ∷ ls) = again_marks w ms ls

pub up_claimed : (w : WorkerId) (ms : List MarkId) (ls : List LockId) → after_all (claimed_after w) ms (up ls) ≡ ms
up_claimed w ms ls = after_all-append (claimed_after w) ms (taken_again (reverse ls)) (Take ∷ []) ∙ again_marks w ms (reverse ls)

-- leases and units are left alone
again_leases : (ls : List LockId) (s : StateView) (w : WorkerId) → IsWorkerOf s w → leases_out (make_all s w (taken_again ls)) ≡ leases_out s
again_leases [] s w worker = refl
again_leases (l ∷ ls) s w worker =
    let worker_now : IsWorkerOf (take_on s w l) w = worker_along (make s w (Unpark l)) (take_on s w l) w (same_shape-make (make s w (Unpark l)) w (Lock l)) (worker_along s (make s w (Unpark l)) w (same_shape-make s w (Unpark l)) worker) in
    let one : leases_out (make s w (Unpark l)) ≡ leases_out s = omega (arith, leases-with_holding s w (holding_after (holding_of s w) (Unpark l)) worker) in
    again_leases ls (take_on s w l) w worker_now ∙ one

up_units : (ls : List LockId) (s : StateView) (w : WorkerId) → (make_all s w (taken_again ls ++ Take ∷ [])).units ≡ s.units
up_units [] s w = refl
up_units (l ∷ ls) s w = up_units ls (take_on s w l) w

-- a blocked worker can take all up, where no lock is another's and a lease is free
can_take_up : (s : StateView) (w : WorkerId) → IsWorkerOf s w → Good s → (holding_of s w).blocked ≡ true → can_take_all s w (holding_of s w).parked ≡ true → can_all s w (taken_up s w) ≡ true
can_take_up s w worker good blocked free =
    let ps : List LockId = (holding_of s w).parked in
    let both = and_parts (list_all (can_own s w) (holding_of s w).parked) (can_lease s w) free in
    let unleased : (holding_of s w).lease ≡ false = good.blocked_no_lease w blocked in
    let good_now : Good (make s w Leave) = kept s w Leave worker tt good blocked in
    let worker_now : IsWorkerOf (make s w Leave) w = worker_along s (make s w Leave) w (same_shape-make s w Leave) worker in
    let holding : holding_of (make s w Leave) w ≡ record (holding_of s w) { blocked = false } = holding_now s w (holding_after (holding_of s w) Leave) worker in
    let parked : (holding_of (make s w Leave) w).parked ≡ reverse (reverse (holding_of s w).parked) = ap (λ (h : Holding). h.parked) holding ∙ sym (reverse_twice (holding_of s w).parked) in
    let there : (k : LockId) → stands_in k (reverse (holding_of s w).parked) ≡ true → has_parked s w k ≡ true = λ k stands. sym (stands_reversed k (holding_of s w).parked) ∙ stands in
    let open' : (k : LockId) → stands_in k (reverse (holding_of s w).parked) ≡ true → kept_from s w k ≡ false = λ k stands.
    not-true (kept_from s w k) (all_stand (can_own s w) k (holding_of s w).parked both.0 (there k stands)) in
    let unowned : (k : LockId) → stands_in k (reverse (holding_of s w).parked) ≡ true → is_none (owner_of s k) ≡ true = λ k stands.
    let other : owns s w k ≡ false = false_from_ne_true (owns s w k) (λ own. false≢true (sym (good.parked_not_owned w k own) ∙ there k stands)) in
    free_lock s w k other (open' k stands) in
    let takes : can_all (make s w Leave) w (taken_again (reverse (holding_of s w).parked)) ≡ true = can_take_again (reverse (holding_of s w).parked) (make s w Leave) w worker_now good_now parked unowned open' in
    let later : holding_of (make_all (make s w Leave) w (taken_again (reverse (holding_of s w).parked))) w ≡ record { lease = (holding_of s w).lease; parked = []; blocked = false } =
    own_holding_all (make s w Leave) w (taken_again (reverse (holding_of s w).parked)) worker_now
    ∙ (after_again (holding_of (make s w Leave) w) (reverse (holding_of s w).parked) parked ∙ ap (λ (h : Holding). record h { parked = [] }) holding) in
    let out : leases_out (make_all (make s w Leave) w (taken_again (reverse (holding_of s w).parked))) ≡ leases_out s =
    again_leases (reverse (holding_of s w).parked) (make s w Leave) w worker_now ∙ omega (arith, leases-with_holding s w (holding_after (holding_of s w) Leave) worker) in
    let most : (make_all (make s w Leave) w (taken_again (reverse (holding_of s w).parked))).max_leases ≡ s.max_leases = sym (same_shape-make_all (make s w Leave) w (taken_again (reverse (holding_of s w).parked))).max_leases in
    let few : leases_out s < s.max_leases = ltb-true (leases_out s) s.max_leases (sym (ap (λ b. b || nat_lt (leases_out s) s.max_leases) unleased) ∙ both.1) in
    let leases : can (make_all (make s w Leave) w (taken_again (reverse (holding_of s w).parked))) w Take ≡ true =
    and_from _ _ (ap (λ (h : Holding). not h.lease && not h.blocked) later ∙ ap (λ b. not b && true) unleased) (lt-ltb _ _ (omega (arith, few, out, most))) in
    and_from (holding_of s w).blocked (can_all (make s w Leave) w (taken_again (reverse (holding_of s w).parked) ++ Take ∷ [])) blocked
    (can_all-append (make s w Leave) w (taken_again (reverse (holding_of s w).parked)) (Take ∷ [])
    ∙ and_from _ _ takes (and_from _ true leases refl))

ends : (w : WorkerId) (o : Outcome) → (same_mark (Running w) (mark_from o) ≡ false) × (names_only (mark_from o) w ≡ true)
ends w (outcomes.Number n) = (refl, refl)
ends w (outcomes.Digest d) = (refl, refl)
ends w _ = (refl, refl)

pub ended_not_running : (v w : WorkerId) (o : Outcome) → runs_by v (mark_from o) ≡ false
ended_not_running v w (outcomes.Number n) = refl
ended_not_running v w (outcomes.Digest d) = refl
ended_not_running v w _ = refl

pub leaves_without : (g : GraphView) (s : StateView) (w : WorkerId) → IsWorkerOf s w → Good s → (holding_of s w).blocked ≡ true → runs_unit s w ≡ false → can_take_all s w (holding_of s w).parked ≡ true → is_enabled g s w (Unblock None) ≡ true
leaves_without g s w worker good blocked idle free =
    and_from (condition g s w (Unblock None)) (can_all s w (taken_up s w)) (and_from (holding_of s w).blocked (not (runs_unit s w)) blocked (not_from_false (runs_unit s w) idle)) (can_take_up s w worker good blocked free)

pub leaves_for : (g : GraphView) (s : StateView) (w : WorkerId) (d : Closed) → IsWorkerOf s w → Good s → (holding_of s w).blocked ≡ true → mark_of s (UnitOf d.unit) ≡ Running w → can_take_all s w (holding_of s w).parked ≡ true → is_enabled g s w (Unblock (Some d)) ≡ true
leaves_for g s w d worker good blocked runs free =
    let running : same_mark (mark_of s (UnitOf d.unit)) (Running w) ≡ true = ap (λ m. same_mark m (Running w)) runs ∙ eq-eqb w.0 w.0 refl in
    let after : StateView = make_all s w (taken_up s w) in
    let still : same_mark (mark_of (make_all s w (taken_up s w)) (UnitOf d.unit)) (Running w) ≡ true =
    ap (λ (us : List Mark). same_mark (mark_of (record s { units = us }) (UnitOf d.unit)) (Running w)) (up_units (reverse (holding_of s w).parked) (make s w Leave) w) ∙ running in
    let moves : can (make_all s w (taken_up s w)) w (Move (UnitOf d.unit) (Running w) (mark_from d.outcome)) ≡ true =
    and_from _ _ (and_from _ _ (and_from _ _ still (not_from_false (same_mark (Running w) (mark_from d.outcome)) (ends w d.outcome).0)) (eq-eqb w.0 w.0 refl)) (ends w d.outcome).1 in
    and_from (condition g s w (Unblock (Some d))) (can_all s w (list_of g s w (Unblock (Some d)))) (and_from (holding_of s w).blocked (same_mark (mark_of s (UnitOf d.unit)) (Running w)) blocked running)
    (can_all-append s w (taken_up s w) (Move (UnitOf d.unit) (Running w) (mark_from d.outcome) ∷ [])
    ∙ and_from (can_all s w (taken_up s w)) _ (can_take_up s w worker good blocked free) (and_from _ true moves refl))
