-- Who owns the all-projects lock owns alone.
use Rattle.std.proofs.Common.{◌≡◌, length, get_or, set, true, false, ◌&&◌, ◌||◌, eqb, ltb, Option, None, Some, inl, inr, refl, sym, ◌∙◌, ap, arith}
use Rattle.std.specs.List.{list_any}
use Rattle.std.proofs.lemmas.Bool.{and_left, and_right, both_ways, cases_Bool, cases_lt, eq-eqb, eqb-true, false_from_ne_true, false≢true, not-false, not_from_true, or_from, or_parts}
use Rattle.std.proofs.lemmas.List.{get_or-set_same, get_or_default, get_or_past, set_past}
use Rattle.std.proofs.lemmas.List.Folds.{list_any_at, list_any_none}
use Rattle.resource_lock.proofs.lemmas.Conflicts.{lock_at, owner_named}
use Rattle.resource_lock.proofs.lemmas.Counted.{any_counted}
use Rattle.resource_lock.proofs.lemmas.Lists.{count_by-set, get_or-set_cases, one_if}
use Rattle.resource_lock.proofs.lemmas.Undo.{same_lock}
use Rattle.resource_lock.specs.Change.{make, with_owner}
use Rattle.resource_lock.specs.Good.{AllAlone}
use Rattle.resource_lock.specs.StateView.{StateView, all_owner, is_all, is_other, is_owner, kept_from, names_lock, owner_if, owner_of, owns, IsLockOf}
use Rattle.resource_lock.specs.declared.changes.Change.TheVariants.{Lock}
use Rattle.resource_lock.specs.declared.ids.LockId.{LockId}
use Rattle.resource_lock.specs.declared.ids.WorkerId.{WorkerId}

-- who owns a lock after one was given back owned it before
pub owned_before : (s : StateView) (l : LockId) (v : WorkerId) (a : LockId) → owns (with_owner s l None) v a ≡ true → owns s v a ≡ true
owned_before s l v a h = elim (get_or-set_cases s.owners l.0 a.0 None None) [
  | inl at ↦ absurd (false≢true (ap (λ o. is_owner o v) (sym at.1) ∙ h))
  | inr off ↦ ap (λ o. is_owner o v) (sym off) ∙ h
]

-- an owner that is no other is the worker
same_from_owner : (o : Option WorkerId) (u w : WorkerId) → is_owner o u ≡ true → is_other o w ≡ false → w.0 ≡ u.0
same_from_owner None u w h n = absurd (false≢true h)
same_from_owner (Some x) u w h n = sym (eqb-true x.0 w.0 (not-false (eqb x.0 w.0) n)) ∙ eqb-true x.0 u.0 h

-- who is another owner owns the lock, and isn't the worker
no_other : (o : Option WorkerId) (w : WorkerId) → ((v : WorkerId) → is_owner o v ≡ true → w.0 ≡ v.0) → is_other o w ≡ false
no_other None w same = refl
no_other (Some x) w same = not_from_true (eqb x.0 w.0) (eq-eqb x.0 w.0 (sym (same x (eq-eqb x.0 x.0 refl))))

no_others : (s : StateView) (w u : WorkerId) (k : LockId) → list_any (λ o. is_other o w) s.owners ≡ false → owns s u k ≡ true → is_other (owner_of s k) w ≡ false
no_others s w u k none owned = elim (cases_lt k.0 (length s.owners)) [
  | inl within ↦ false_from_ne_true (is_other (owner_of s k) w) (λ other. both_ways (list_any (λ o. is_other o w) s.owners) none (list_any_at (λ o. is_other o w) s.owners k.0 None within other))
  | inr past ↦ absurd (false≢true (ap (λ o. is_owner o u) (sym (get_or_past s.owners k.0 None past)) ∙ owned))
]

-- a lock from which no worker is kept leaves the lock for all projects alone
pub alone_locked : (s : StateView) (w : WorkerId) (l : LockId) → AllAlone s → kept_from s w l ≡ false → (v u : WorkerId) (a k : LockId) → is_all s a ≡ true → owns (with_owner s l (Some w)) v a ≡ true → owns (with_owner s l (Some w)) u k ≡ true → v.0 ≡ u.0
alone_locked s w l g open_ v u a k is first second =
    let parts : ((is_other (owner_of s l) w || is_other (all_owner s) w) ≡ false) × ((is_all s l && list_any (λ o. is_other o w) s.owners) ≡ false) = or_parts (is_other (owner_of s l) w || is_other (all_owner s) w) (is_all s l && list_any (λ o. is_other o w) s.owners) open_ in
    let all_free : is_other (all_owner s) w ≡ false = (or_parts (is_other (owner_of s l) w) (is_other (all_owner s) w) parts.0).1 in
    let of_all : is_other (owner_of s a) w ≡ false = ap (λ o. is_other o w) (sym (owner_named s a s.all is)) ∙ all_free in
    elim (get_or-set_cases s.owners l.0 a.0 (Some w) None) [
      | inl at ↦
          let is_w : w.0 ≡ v.0 = eqb-true w.0 v.0 (ap (λ o. is_owner o v) (sym at.1) ∙ first) in
          let here : is_all s l ≡ true = ap (is_all s) (sym (same_lock a l at.0)) ∙ is in
          let none : list_any (λ o. is_other o w) s.owners ≡ false = ap (λ b. b && list_any (λ o. is_other o w) s.owners) (sym here) ∙ parts.1 in
          elim (get_or-set_cases s.owners l.0 k.0 (Some w) None) [
            | inl there ↦ sym is_w ∙ eqb-true w.0 u.0 (ap (λ o. is_owner o u) (sym there.1) ∙ second)
            | inr off ↦ let owned : owns s u k ≡ true = ap (λ o. is_owner o u) (sym off) ∙ second in
                sym is_w ∙ same_from_owner (owner_of s k) u w owned (no_others s w u k none owned)
          ]
      | inr off ↦
          let owned : owns s v a ≡ true = ap (λ o. is_owner o v) (sym off) ∙ first in
          let is_w : w.0 ≡ v.0 = same_from_owner (owner_of s a) v w owned of_all in
          elim (get_or-set_cases s.owners l.0 k.0 (Some w) None) [
            | inl there ↦ sym is_w ∙ eqb-true w.0 u.0 (ap (λ o. is_owner o u) (sym there.1) ∙ second)
            | inr still ↦ g v u a k is owned (ap (λ o. is_owner o u) (sym still) ∙ second)
          ]
    ]

-- the owner of the lock for all projects isn't another, where the worker owned a lock
all_not_other : (s : StateView) (w : WorkerId) (l : LockId) → AllAlone s → owns s w l ≡ true → (all : Option LockId) → ((a : LockId) → names_lock all a ≡ true → is_all s a ≡ true) → is_other (owner_if (with_owner s l None) all) w ≡ false
all_not_other s w l g h None same = refl
all_not_other s w l g h (Some a) same = no_other (owner_of (with_owner s l None) a) w (λ v owned. sym (g v w a l (same a (eq-eqb a.0 a.0 refl)) (owned_before s l v a owned) h))

-- a lock given back can be taken again
pub free_again : (s : StateView) (w : WorkerId) (l : LockId) → IsLockOf s l → AllAlone s → owns s w l ≡ true → kept_from (with_owner s l None) w l ≡ false
free_again s w l within g h =
    let t : StateView = with_owner s l None in
    let first : is_other (owner_of (with_owner s l None) l) w ≡ false = ap (λ o. is_other o w) (get_or-set_same s.owners l.0 None None within) in
    or_from (is_other (owner_of (with_owner s l None) l) w || is_other (owner_if (with_owner s l None) s.all) w) (is_all s l && list_any (λ o. is_other o w) (set s.owners l.0 None))
    (or_from (is_other (owner_of (with_owner s l None) l) w) (is_other (owner_if (with_owner s l None) s.all) w) first (all_not_other s w l g h s.all (λ a is. is)))
    (elim (cases_Bool (is_all s l)) [
      | inl all ↦ and_right (is_all s l) (list_any (λ o. is_other o w) (set s.owners l.0 None)) (list_any_none (λ o. is_other o w) (set s.owners l.0 None) (λ k d short. no_other (get_or (set s.owners l.0 None) k d) w (λ v owned. g w v l (lock_at k) all h (owned_before s l v (lock_at k) (ap (λ o. is_owner o v) (get_or_default (set s.owners l.0 None) k None d short) ∙ owned)))))
      | inr not_all ↦ and_left (is_all s l) (list_any (λ o. is_other o w) (set s.owners l.0 None)) not_all
    ])

-- ---- a lock of one's own

-- who owns a lock isn't kept from it
pub own_not_kept : (s : StateView) (w : WorkerId) (l : LockId) → AllAlone s → owns s w l ≡ true → kept_from s w l ≡ false
own_not_kept s w l g h = or_from (is_other (owner_of s l) w || is_other (all_owner s) w) (is_all s l && list_any (λ o. is_other o w) s.owners)
    (or_from (is_other (owner_of s l) w) (is_other (all_owner s) w) (own (owner_of s l) h) (of_all s.all (λ a is. is)))
    (elim (cases_Bool (is_all s l)) [
      | inl all ↦ and_right (is_all s l) (list_any (λ o. is_other o w) s.owners) (list_any_none (λ o. is_other o w) s.owners (λ k d short. no_other (get_or s.owners k d) w (λ v owned. g w v l (lock_at k) all h (ap (λ o. is_owner o v) (get_or_default s.owners k None d short) ∙ owned))))
      | inr not_all ↦ and_left (is_all s l) (list_any (λ o. is_other o w) s.owners) not_all
    ])
  where
    own : (o : Option WorkerId) → is_owner o w ≡ true → is_other o w ≡ false
    own None h = refl
    own (Some v) h = not_from_true (eqb v.0 w.0) h

    of_all : (all : Option LockId) → ((a : LockId) → names_lock all a ≡ true → is_all s a ≡ true) → is_other (owner_if s all) w ≡ false
    of_all None same = refl
    of_all (Some a) same = no_other (owner_of s a) w (λ v owned. sym (g v w a l (same a (eq-eqb a.0 a.0 refl)) owned h))

-- a free lock taken changes nothing of the locks from which the worker is kept
other_same : (s : StateView) (w : WorkerId) (l k : LockId) → owner_of s l ≡ None → is_other (owner_of (with_owner s l (Some w)) k) w ≡ is_other (owner_of s k) w
other_same s w l k free = elim (get_or-set_cases s.owners l.0 k.0 (Some w) None) [
  | inl at ↦ ap (λ o. is_other o w) at.1 ∙ not_from_true (eqb w.0 w.0) (eq-eqb w.0 w.0 refl) ∙ sym (ap (λ x. is_other (owner_of s x) w) (same_lock k l at.0) ∙ ap (λ o. is_other o w) free)
  | inr off ↦ ap (λ o. is_other o w) off
]

all_other_same : (s : StateView) (w : WorkerId) (l : LockId) (all : Option LockId) → owner_of s l ≡ None → is_other (owner_if (with_owner s l (Some w)) all) w ≡ is_other (owner_if s all) w
all_other_same s w l None free = refl
all_other_same s w l (Some a) free = other_same s w l a free

any_other_same : (s : StateView) (w : WorkerId) (l : LockId) → owner_of s l ≡ None → list_any (λ o. is_other o w) (set s.owners l.0 (Some w)) ≡ list_any (λ o. is_other o w) s.owners
any_other_same s w l free = elim (cases_lt l.0 (length s.owners)) [
  | inl within ↦
      let new : one_if (is_other (Some w) w) ≡ 0 = ap one_if (not_from_true (eqb w.0 w.0) (eq-eqb w.0 w.0 refl)) in
      let old : one_if (is_other (owner_of s l) w) ≡ 0 = ap (λ o. one_if (is_other o w)) free in
      any_counted (λ o. is_other o w) (set s.owners l.0 (Some w))
      ∙ ap (ltb 0) (omega (arith, count_by-set (λ o. is_other o w) s.owners l.0 (Some w) None within, new, old))
      ∙ sym (any_counted (λ o. is_other o w) s.owners)
  | inr past ↦ ap (list_any (λ o. is_other o w)) (set_past s.owners l.0 (Some w) past)
]

pub kept_same : (s : StateView) (w : WorkerId) (l k : LockId) → owner_of s l ≡ None → kept_from (make s w (Lock l)) w k ≡ kept_from s w k
kept_same s w l k free =
    ap (λ b. b || is_other (all_owner (with_owner s l (Some w))) w || (is_all s k && list_any (λ o. is_other o w) (set s.owners l.0 (Some w)))) (other_same s w l k free)
    ∙ ap (λ b. is_other (owner_of s k) w || b || (is_all s k && list_any (λ o. is_other o w) (set s.owners l.0 (Some w)))) (all_other_same s w l s.all free)
    ∙ ap (λ b. is_other (owner_of s k) w || is_other (all_owner s) w || (is_all s k && b)) (any_other_same s w l free)
