-- A change that can be made keeps a state good, and its inverse can be made then.
use Rattle.std.proofs.Common.{◌≡◌, ◌<◌, ◌≤◌, ◌+◌, ◌-◌, length, List, [], ◌∷◌, ◌++◌, true, false, not, ◌&&◌, ◌||◌, eqb, ltb, refl, sym, ◌∙◌, ap, subst, arith, Option, None, Some, ◌⊎◌, inl, inr}
use Rattle.std.specs.Option.{is_none}
use Rattle.std.proofs.lemmas.Bool.{or_cases, false≢true, true_from_ne_false, or_left, or_right, and_parts, and_from, not-true, not_from_false, eqb-true, eq-eqb, ltb-true, lt-ltb, false_from_ne_true, both_ways, or_from}
use Rattle.std.proofs.lemmas.List.{get_or-set_same, get_or_push, length_push, length-set}
use Rattle.std.proofs.lemmas.Option.{slice_get-get_or}
use Rattle.std.proofs.lemmas.List.Folds.{list_any-append}
use Rattle.resource_lock.proofs.lemmas.Alone.{alone_locked, free_again, owned_before}
use Rattle.resource_lock.proofs.lemmas.Lists.{get_or-set_cases, count_by-set, one_if, list_any-take_false, each_once-push, each_once-front}
use Rattle.resource_lock.proofs.lemmas.Undo.{same_worker, same_lock, same_mark_is, holding_now, last_from}
use Rattle.resource_lock.specs.StateView.{StateView, Holding, empty_holding, holding_of, owner_of, owns, is_owner, is_all, kept_from, leases_out, mark_of, stands_in, has_parked, each_once, IsWorkerOf, IsLockOf, IsMarkOf}
use Rattle.resource_lock.specs.Change.{same_mark, names_only, is_lock, stands_last, without_last, can, make, holding_after, inverse_of, with_holding, with_owner, with_mark, NamesOnly}
use Rattle.resource_lock.specs.Good.{Good}
use Rattle.resource_lock.specs.declared.ids.LockId.{LockId}
use Rattle.resource_lock.specs.declared.ids.WorkerId.{WorkerId}
use Rattle.resource_lock.specs.declared.marks.Mark.{Mark}
use Rattle.resource_lock.specs.declared.marks.Mark.TheVariants.{Waiting, Queued, Running, Passed, Failed, Skipped}
use Rattle.resource_lock.specs.declared.marks.MarkId.{MarkId}
use Rattle.resource_lock.specs.declared.marks.MarkId.TheVariants.{Task as TaskOf, Action as ActionOf, Unit as UnitOf}
use Rattle.resource_lock.specs.declared.changes.Change.{Change}
use Rattle.resource_lock.specs.declared.changes.Change.TheVariants.{Lock, Unlock, Take, Give, Move, Park, Unpark, Enter, Leave}

-- the leases out, after a write to one worker's holding
pub leases-with_holding : (s : StateView) (w : WorkerId) (h : Holding) → IsWorkerOf s w → leases_out (with_holding s w h) + one_if (holding_of s w).lease ≡ leases_out s + one_if h.lease
leases-with_holding s w h within = count_by-set (λ x. x.lease) s.holdings w.0 h empty_holding within

leases_same : (s : StateView) (w : WorkerId) (h : Holding) → IsWorkerOf s w → h.lease ≡ (holding_of s w).lease → leases_out (with_holding s w h) ≡ leases_out s
leases_same s w h within e = omega (arith, leases-with_holding s w h within, ap one_if e)

-- what a new holding must meet
record IsFit (s : StateView) (w : WorkerId) (h : Holding) : Type 0 where
  pub few : leases_out (with_holding s w h) ≤ s.max_leases
  pub not_owned : (l : LockId) → owns s w l ≡ true → stands_in l h.parked ≡ false
  pub once : each_once h.parked ≡ true
  pub locks : (l : LockId) → stands_in l h.parked ≡ true → IsLockOf s l
  pub no_lease : h.blocked ≡ true → h.lease ≡ false

good_holding : (s : StateView) (w : WorkerId) (h : Holding) → Good s → IsFit s w h → Good (with_holding s w h)
good_holding s w h g fit = record {
  few_leases = fit.few;
  all_alone = g.all_alone;
  parked_not_owned = λ v l owned. elim (get_or-set_cases s.holdings w.0 v.0 h empty_holding) [
    | inl at ↦ ap (λ x. stands_in l x.parked) at.1 ∙ fit.not_owned l (ap (λ x. owns s x l) (sym (same_worker v w at.0)) ∙ owned)
    | inr off ↦ ap (λ x. stands_in l x.parked) off ∙ g.parked_not_owned v l owned
  ];
  parked_once = λ v. elim (get_or-set_cases s.holdings w.0 v.0 h empty_holding) [
    | inl at ↦ ap (λ x. each_once x.parked) at.1 ∙ fit.once
    | inr off ↦ ap (λ x. each_once x.parked) off ∙ g.parked_once v
  ];
  parked_locks = λ v l stands. elim (get_or-set_cases s.holdings w.0 v.0 h empty_holding) [
    | inl at ↦ fit.locks l (ap (λ x. stands_in l x.parked) (sym at.1) ∙ stands)
    | inr off ↦ g.parked_locks v l (ap (λ x. stands_in l x.parked) (sym off) ∙ stands)
  ];
  blocked_no_lease = λ v blocked. elim (get_or-set_cases s.holdings w.0 v.0 h empty_holding) [
    | inl at ↦ ap (λ x. x.lease) at.1 ∙ fit.no_lease (ap (λ x. x.blocked) (sym at.1) ∙ blocked)
    | inr off ↦ ap (λ x. x.lease) off ∙ g.blocked_no_lease v (ap (λ x. x.blocked) (sym off) ∙ blocked)
  ];
}

good_owner : (s : StateView) (l : LockId) (o : Option WorkerId) → Good s → ((v : WorkerId) → is_owner o v ≡ true → has_parked s v l ≡ false) → ((v u : WorkerId) (a k : LockId) → is_all s a ≡ true → owns (with_owner s l o) v a ≡ true → owns (with_owner s l o) u k ≡ true → v.0 ≡ u.0) → Good (with_owner s l o)
good_owner s l o g free alone = record {
  few_leases = g.few_leases;
  all_alone = alone;
  parked_not_owned = λ v k owned. elim (get_or-set_cases s.owners l.0 k.0 o None) [
    | inl at ↦ ap (λ x. has_parked s v x) (same_lock k l at.0) ∙ free v (ap (λ x. is_owner x v) (sym at.1) ∙ owned)
    | inr off ↦ g.parked_not_owned v k (ap (λ x. is_owner x v) (sym off) ∙ owned)
  ];
  parked_once = g.parked_once;
  parked_locks = λ v k stands. omega (arith, g.parked_locks v k stands, length-set s.owners l.0 o);
  blocked_no_lease = g.blocked_no_lease;
}

good_mark : (s : StateView) (m : MarkId) (a : Mark) → Good s → Good (with_mark s m a)
good_mark s (TaskOf t) a g = record { few_leases = g.few_leases; all_alone = g.all_alone; parked_not_owned = g.parked_not_owned; parked_once = g.parked_once; parked_locks = g.parked_locks; blocked_no_lease = g.blocked_no_lease }
good_mark s (ActionOf t) a g = record { few_leases = g.few_leases; all_alone = g.all_alone; parked_not_owned = g.parked_not_owned; parked_once = g.parked_once; parked_locks = g.parked_locks; blocked_no_lease = g.blocked_no_lease }
good_mark s (UnitOf t) a g = record { few_leases = g.few_leases; all_alone = g.all_alone; parked_not_owned = g.parked_not_owned; parked_once = g.parked_once; parked_locks = g.parked_locks; blocked_no_lease = g.blocked_no_lease }

-- one more parked lock
stands_in-push : (l k : LockId) (locks : List LockId) → stands_in l locks ≡ false → eqb k.0 l.0 ≡ false → stands_in l (locks ++ k ∷ []) ≡ false
stands_in-push l k locks a b = list_any-append (λ x. eqb x.0 l.0) locks (k ∷ []) ∙ or_from (stands_in l locks) (eqb k.0 l.0 || false) a (or_from (eqb k.0 l.0) false b refl)

-- a lock that stands in a list with one more stood there, or is that one
stands_in-pushed : (l k : LockId) (locks : List LockId) → stands_in l (locks ++ k ∷ []) ≡ true → (stands_in l locks ≡ true) ⊎ (k.0 ≡ l.0)
stands_in-pushed l k locks h = elim (or_cases (stands_in l locks) (eqb k.0 l.0 || false) (sym (list_any-append (λ x. eqb x.0 l.0) locks (k ∷ [])) ∙ h)) [
  | inl old ↦ inl old
  | inr new ↦ elim (or_cases (eqb k.0 l.0) false new) [ inl same ↦ inr (eqb-true k.0 l.0 same) | inr never ↦ absurd (false≢true never) ]
]

pub kept : (s : StateView) (w : WorkerId) (c : Change) → IsWorkerOf s w → NamesOnly s c → Good s → can s w c ≡ true → Good (make s w c)
kept s w (Lock l) within named g h =
    let parts : ((is_none (owner_of s l) && not (kept_from s w l)) ≡ true) × (not (has_parked s w l) ≡ true) = and_parts (is_none (owner_of s l) && not (kept_from s w l)) (not (has_parked s w l)) h in
    let absent : has_parked s w l ≡ false = not-true (has_parked s w l) parts.1 in
    let open_ : kept_from s w l ≡ false = not-true (kept_from s w l) (and_parts (is_none (owner_of s l)) (not (kept_from s w l)) parts.0).1 in
    good_owner s l (Some w) g (λ v e. ap (λ x. has_parked s x l) (sym (same_worker w v (eqb-true w.0 v.0 e))) ∙ absent) (alone_locked s w l g.all_alone open_)
kept s w (Unlock l) within named g h = good_owner s l None g (λ v e. cc) (λ v u a k is first second. g.all_alone v u a k is (owned_before s l v a first) (owned_before s l u k second))
kept s w Take within named g h =
    let parts : ((not (holding_of s w).lease && not (holding_of s w).blocked) ≡ true) × (ltb (leases_out s) s.max_leases ≡ true) = and_parts (not (holding_of s w).lease && not (holding_of s w).blocked) (ltb (leases_out s) s.max_leases) h in
    let two : (not (holding_of s w).lease ≡ true) × (not (holding_of s w).blocked ≡ true) = and_parts (not (holding_of s w).lease) (not (holding_of s w).blocked) parts.0 in
    let few : leases_out s < s.max_leases = ltb-true (leases_out s) s.max_leases parts.1 in
    let count : leases_out (make s w Take) + one_if (holding_of s w).lease ≡ leases_out s + 1 = leases-with_holding s w (holding_after (holding_of s w) Take) within in
    good_holding s w (holding_after (holding_of s w) Take) g record {
      few = omega arith;
      not_owned = g.parked_not_owned w;
      once = g.parked_once w;
      locks = g.parked_locks w;
      no_lease = λ blocked. absurd (both_ways (holding_of s w).blocked (not-true (holding_of s w).blocked two.1) blocked);
    }
kept s w Give within named g h =
    let count : leases_out (make s w Give) + one_if (holding_of s w).lease ≡ leases_out s + 0 = leases-with_holding s w (holding_after (holding_of s w) Give) within in
    good_holding s w (holding_after (holding_of s w) Give) g record {
      few = omega (arith, g.few_leases);
      not_owned = g.parked_not_owned w;
      once = g.parked_once w;
      locks = g.parked_locks w;
      no_lease = λ _. refl;
    }
kept s w (Move m from to) within named g h = good_mark s m to g
kept s w (Park l) within named g h =
    let parts : (not (owns s w l) ≡ true) × (not (has_parked s w l) ≡ true) = and_parts (not (owns s w l)) (not (has_parked s w l)) h in
    good_holding s w (holding_after (holding_of s w) (Park l)) g record {
      few = omega (arith, leases_same s w (holding_after (holding_of s w) (Park l)) within refl, g.few_leases);
      not_owned = λ k owned. stands_in-push k l (holding_of s w).parked (g.parked_not_owned w k owned) (false_from_ne_true (eqb l.0 k.0) (λ same. both_ways (owns s w l) (not-true (owns s w l) parts.0) (ap (λ x. owns s w x) (same_lock l k (eqb-true l.0 k.0 same)) ∙ owned)));
      once = each_once-push (holding_of s w).parked l (g.parked_once w) (not-true (has_parked s w l) parts.1);
      locks = λ k stands. elim (stands_in-pushed k l (holding_of s w).parked stands) [ inl old ↦ g.parked_locks w k old | inr same ↦ subst (λ n. n < length s.owners) same named ];
      no_lease = g.blocked_no_lease w;
    }
kept s w (Unpark l) within named g h =
    let locks : List LockId = (holding_of s w).parked in
    good_holding s w (holding_after (holding_of s w) (Unpark l)) g record {
      few = omega (arith, leases_same s w (holding_after (holding_of s w) (Unpark l)) within refl, g.few_leases);
      not_owned = λ k owned. list_any-take_false (λ x. eqb x.0 k.0) (length (holding_of s w).parked - 1) (holding_of s w).parked (g.parked_not_owned w k owned);
      locks = λ k stands. g.parked_locks w k (true_from_ne_false (stands_in k (holding_of s w).parked) (λ none. both_ways (stands_in k (without_last (holding_of s w).parked)) (list_any-take_false (λ x. eqb x.0 k.0) (length (holding_of s w).parked - 1) (holding_of s w).parked none) stands));
      once = (each_once-front (without_last (holding_of s w).parked) l (ap each_once (last_from (holding_of s w).parked l h) ∙ g.parked_once w)).0;
      no_lease = g.blocked_no_lease w;
    }
kept s w Enter within named g h =
    let without : (holding_of s w).lease ≡ false = not-true (holding_of s w).lease (and_parts (not (holding_of s w).blocked) (not (holding_of s w).lease) h).1 in
    good_holding s w (holding_after (holding_of s w) Enter) g record {
      few = omega (arith, leases_same s w (holding_after (holding_of s w) Enter) within refl, g.few_leases);
      not_owned = g.parked_not_owned w;
      once = g.parked_once w;
      locks = g.parked_locks w;
      no_lease = λ _. without;
    }
kept s w Leave within named g h =
    good_holding s w (holding_after (holding_of s w) Leave) g record {
      few = omega (arith, leases_same s w (holding_after (holding_of s w) Leave) within refl, g.few_leases);
      not_owned = g.parked_not_owned w;
      once = g.parked_once w;
      locks = g.parked_locks w;
      no_lease = λ e. cc;
    }

same_mark_self : (a : Mark) → same_mark a a ≡ true
same_mark_self Waiting = refl
same_mark_self Queued = refl
same_mark_self (Running v) = eq-eqb v.0 v.0 refl
same_mark_self Passed = refl
same_mark_self Failed = refl
same_mark_self Skipped = refl

mark_now : (s : StateView) (m : MarkId) (a : Mark) → IsMarkOf s m → mark_of (with_mark s m a) m ≡ a
mark_now s (TaskOf t) a within = get_or-set_same s.tasks t a Waiting within
mark_now s (ActionOf t) a within = get_or-set_same s.actions t a Waiting within
mark_now s (UnitOf t) a within = get_or-set_same s.units t a Waiting within

stands_last-push : (l : LockId) (locks : List LockId) → stands_last l (locks ++ l ∷ []) ≡ true
stands_last-push l locks =
    let at : length locks ≡ length (locks ++ l ∷ []) - 1 = omega (arith, length_push locks l) in
    let within : length (locks ++ l ∷ []) - 1 < length (locks ++ l ∷ []) = omega (arith, length_push locks l) in
    ap (λ o. is_lock o l) (slice_get-get_or (locks ++ l ∷ []) (length (locks ++ l ∷ []) - 1) l within ∙ ap Some (get_or_push locks l l (length (locks ++ l ∷ []) - 1) at))
    ∙ eq-eqb l.0 l.0 refl

stands_in-last : (l : LockId) (locks : List LockId) → stands_in l (locks ++ l ∷ []) ≡ true
stands_in-last l locks = list_any-append (λ x. eqb x.0 l.0) locks (l ∷ []) ∙ or_right (stands_in l locks) (eqb l.0 l.0 || false) (or_left (eqb l.0 l.0) false (eq-eqb l.0 l.0 refl))

-- the inverse of a change can be made after it
pub can_back : (s : StateView) (w : WorkerId) (c : Change) → IsWorkerOf s w → NamesOnly s c → Good s → can s w c ≡ true → can (make s w c) w (inverse_of c) ≡ true
can_back s w (Lock l) within named g h = ap (λ o. is_owner o w) (get_or-set_same s.owners l.0 (Some w) None named) ∙ eq-eqb w.0 w.0 refl
can_back s w (Unlock l) within named g h =
    let free : (is_none (owner_of (make s w (Unlock l)) l) && not (kept_from (make s w (Unlock l)) w l)) ≡ true = and_from (is_none (owner_of (make s w (Unlock l)) l)) (not (kept_from (make s w (Unlock l)) w l)) (ap is_none (get_or-set_same s.owners l.0 None None named)) (not_from_false (kept_from (make s w (Unlock l)) w l) (free_again s w l named g.all_alone h)) in
    and_from (is_none (owner_of (make s w (Unlock l)) l) && not (kept_from (make s w (Unlock l)) w l)) (not (has_parked s w l)) free (not_from_false (has_parked s w l) (g.parked_not_owned w l h))
can_back s w Take within named g h = ap (λ x. x.lease) (holding_now s w (holding_after (holding_of s w) Take) within)
can_back s w Give within named g h =
    let now : holding_of (make s w Give) w ≡ holding_after (holding_of s w) Give = holding_now s w (holding_after (holding_of s w) Give) within in
    let count : leases_out (make s w Give) + one_if (holding_of s w).lease ≡ leases_out s + 0 = leases-with_holding s w (holding_after (holding_of s w) Give) within in
    let one : one_if (holding_of s w).lease ≡ 1 = ap one_if h in
    let free : (holding_of s w).blocked ≡ false = false_from_ne_true (holding_of s w).blocked (λ b. both_ways (holding_of s w).lease (g.blocked_no_lease w b) h) in
    let few : leases_out (make s w Give) < s.max_leases = omega (arith, g.few_leases) in
    and_from _ (ltb (leases_out (make s w Give)) s.max_leases)
    (and_from (not (holding_of (make s w Give) w).lease) (not (holding_of (make s w Give) w).blocked) (ap (λ x. not x.lease) now) (ap (λ x. not x.blocked) now ∙ not_from_false (holding_of s w).blocked free))
    (lt-ltb (leases_out (make s w Give)) s.max_leases few)
can_back s w (Move m from to) within named g h =
    let first : ((same_mark (mark_of s m) from && not (same_mark from to) && names_only from w) ≡ true) × (names_only to w ≡ true) = and_parts _ (names_only to w) h in
    let second : ((same_mark (mark_of s m) from && not (same_mark from to)) ≡ true) × (names_only from w ≡ true) = and_parts _ (names_only from w) first.0 in
    let third : (same_mark (mark_of s m) from ≡ true) × (not (same_mark from to) ≡ true) = and_parts _ (not (same_mark from to)) second.0 in
    let other : same_mark to from ≡ false = false_from_ne_true (same_mark to from) (λ e. both_ways (same_mark from to) (not-true (same_mark from to) third.1) (ap (λ x. same_mark x to) (sym (same_mark_is to from e)) ∙ same_mark_self to)) in
    and_from _ (names_only from w)
    (and_from _ (names_only to w)
    (and_from (same_mark (mark_of (with_mark s m to) m) to) (not (same_mark to from)) (ap (λ x. same_mark x to) (mark_now s m to named) ∙ same_mark_self to) (not_from_false (same_mark to from) other))
    first.1)
    second.1
can_back s w (Park l) within named g h = ap (λ x. stands_last l x.parked) (holding_now s w (holding_after (holding_of s w) (Park l)) within) ∙ stands_last-push l (holding_of s w).parked
can_back s w (Unpark l) within named g h =
    let now : holding_of (make s w (Unpark l)) w ≡ holding_after (holding_of s w) (Unpark l) = holding_now s w (holding_after (holding_of s w) (Unpark l)) within in
    let whole : without_last (holding_of s w).parked ++ l ∷ [] ≡ (holding_of s w).parked = last_from (holding_of s w).parked l h in
    let stood : has_parked s w l ≡ true = ap (stands_in l) (sym whole) ∙ stands_in-last l (without_last (holding_of s w).parked) in
    let not_owned : owns s w l ≡ false = false_from_ne_true (owns s w l) (λ o. both_ways (has_parked s w l) (g.parked_not_owned w l o) stood) in
    let gone : stands_in l (without_last (holding_of s w).parked) ≡ false = (each_once-front (without_last (holding_of s w).parked) l (ap each_once whole ∙ g.parked_once w)).1 in
    and_from (not (owns s w l)) (not (has_parked (make s w (Unpark l)) w l)) (not_from_false (owns s w l) not_owned) (ap (λ x. not (stands_in l x.parked)) now ∙ not_from_false (stands_in l (without_last (holding_of s w).parked)) gone)
can_back s w Enter within named g h = ap (λ x. x.blocked) (holding_now s w (holding_after (holding_of s w) Enter) within)
can_back s w Leave within named g h =
    let now : holding_of (make s w Leave) w ≡ holding_after (holding_of s w) Leave = holding_now s w (holding_after (holding_of s w) Leave) within in
    and_from (not (holding_of (make s w Leave) w).blocked) (not (holding_of (make s w Leave) w).lease) (ap (λ x. not x.blocked) now) (ap (λ x. not x.lease) now ∙ not_from_false (holding_of s w).lease (g.blocked_no_lease w h))
