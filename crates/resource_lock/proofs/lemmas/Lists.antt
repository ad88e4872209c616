-- Laws of lists that the proofs on changes use.
use Rattle.std.proofs.Common.{◌≡◌, ℕ, ◌+◌, ◌-◌, ◌<◌, ◌≤◌, zero, suc, List, [], ◌∷◌, ◌++◌, length, take, Bool, true, false, not, cond, ◌||◌, eqb, ◌⊎◌, inl, inr, refl, sym, ◌∙◌, ap, arith, Some, get_or, set, map}
use Rattle.std.specs.List.{AllByRecursion, IsDistinct, range_with_len, list_any, slice_get, count_by}
use Rattle.std.proofs.lemmas.List.{set-set, set-get_or, get_or-set_same, get_or-set_other, set_past, take_all, take_more}
use Rattle.std.proofs.lemmas.List.Sums.{sum_by-set}
use Rattle.std.proofs.lemmas.List.Folds.{list_any-append, list_any_at}
use Rattle.std.proofs.lemmas.List.FromFn.{length-map-range_with_len, get_or-map-range_with_len}
use Rattle.std.proofs.lemmas.Map.Made.{length-le_from_is_member}
use Rattle.std.specs.Cmp.{IsEquivalence, nat_eq_equiv}
use Rattle.std.proofs.lemmas.Option.{slice_get_within, get_or_from_slice_get}
use Rattle.std.proofs.lemmas.Bool.{cases_eq, cases_lt, or_parts, or_from, and_parts, and_from, not-true, not_from_false, eqb-false, ne_eqb}
use Rattle.resource_lock.specs.StateView.{stands_in, each_once}
use Rattle.resource_lock.specs.declared.ids.LockId.{LockId}

-- what stood at a place, put back over another value, gives the list again
pub set_back : {X : Type 0} (xs : List X) (i : ℕ) (d a b : X) → get_or xs i d ≡ b → set (set xs i a) i b ≡ xs
set_back xs i d a b e = set-set xs i a b ∙ ap (set xs i) (sym e) ∙ set-get_or xs i d

-- after a write at i, what stands at j is what was written, or as before
pub get_or-set_cases : {X : Type 0} (xs : List X) (i j : ℕ) (a d : X) → ((j ≡ i) × (get_or (set xs i a) j d ≡ a)) ⊎ (get_or (set xs i a) j d ≡ get_or xs j d)
get_or-set_cases xs i j a d = elim (cases_eq j i) [
  | inl same ↦ elim (cases_lt i (length xs)) [
    | inl within ↦ inl (same, ap (λ k. get_or (set xs i a) k d) same ∙ get_or-set_same xs i a d within)
    | inr past ↦ inr (ap (λ l. get_or l j d) (set_past xs i a past))
  ]
  | inr other ↦ inr (get_or-set_other xs i j a d other)
]

-- one for true
abbrev pub one_if : Bool → ℕ
one_if b = cond b 1 0

-- a write changes a count by the two values at its place
pub count_by-set : {X : Type 0} (p : X → Bool) (xs : List X) (i : ℕ) (y d : X) → i < length xs → count_by p (set xs i y) + one_if (p (get_or xs i d)) ≡ count_by p xs + one_if (p y)
count_by-set p xs i y d l = sum_by-set (λ x. one_if (p x)) xs i y d l

-- what no member passes, none of the first n passes
pub list_any-take_false : {X : Type 0} (p : X → Bool) (n : ℕ) (xs : List X) → list_any p xs ≡ false → list_any p (take n xs) ≡ false
list_any-take_false p zero xs none = refl
list_any-take_false p (suc n) [] none = refl
list_any-take_false p (suc n) (x ∷ xs) none =
    let parts : (p x ≡ false) × (list_any p xs ≡ false) = or_parts (p x) (list_any p xs) none in
    or_from (p x) (list_any p (take n xs)) parts.0 (list_any-take_false p n xs parts.1)

-- a list is what is left without its last member, and that member
pub last_back : {X : Type 0} (xs : List X) (x : X) → slice_get xs (length xs - 1) ≡ Some x → take (length xs - 1) xs ++ x ∷ [] ≡ xs
last_back xs x e =
    let within : length xs - 1 < length xs = slice_get_within xs (length xs - 1) x e in
    let longer : length xs ≤ length xs - 1 + 1 = omega arith in
    ap (λ y. take (length xs - 1) xs ++ y ∷ []) (sym (get_or_from_slice_get xs (length xs - 1) x x e))
    ∙ sym (take_more xs (length xs - 1) x within)
    ∙ take_all (length xs - 1 + 1) xs longer

eqb_flips : (a b : ℕ) → eqb a b ≡ false → eqb b a ≡ false
eqb_flips a b e = ne_eqb b a (λ same. eqb-false a b e (sym same))

-- one more lock that doesn't stand in the list
pub each_once-push : (ks : List LockId) (k : LockId) → each_once ks ≡ true → stands_in k ks ≡ false → each_once (ks ++ k ∷ []) ≡ true
each_once-push [] k once new = refl
each_once-push (x ∷ xs) k once new =
    let parts : (not (stands_in x xs) ≡ true) × (each_once xs ≡ true) = and_parts (not (stands_in x xs)) (each_once xs) once in
    let apart : (eqb x.0 k.0 ≡ false) × (stands_in k xs ≡ false) = or_parts (eqb x.0 k.0) (stands_in k xs) new in
    let absent : stands_in x (xs ++ k ∷ []) ≡ false =
    list_any-append (λ y. eqb y.0 x.0) xs (k ∷ []) ∙ or_from (stands_in x xs) (eqb k.0 x.0 || false) (not-true (stands_in x xs) parts.0) (or_from (eqb k.0 x.0) false (eqb_flips x.0 k.0 apart.0) refl) in
    and_from (not (stands_in x (xs ++ k ∷ []))) (each_once (xs ++ k ∷ [])) (not_from_false (stands_in x (xs ++ k ∷ [])) absent) (each_once-push xs k parts.1 apart.1)

-- the last of a list of locks that stand in it once doesn't stand before
pub each_once-front : (ks : List LockId) (k : LockId) → each_once (ks ++ k ∷ []) ≡ true → (each_once ks ≡ true) × (stands_in k ks ≡ false)
each_once-front [] k once = (refl, refl)
each_once-front (x ∷ xs) k once =
    let parts : (not (stands_in x (xs ++ k ∷ [])) ≡ true) × (each_once (xs ++ k ∷ []) ≡ true) = and_parts (not (stands_in x (xs ++ k ∷ []))) (each_once (xs ++ k ∷ [])) once in
    let rest : (each_once xs ≡ true) × (stands_in k xs ≡ false) = each_once-front xs k parts.1 in
    let absent : (stands_in x xs || (eqb k.0 x.0 || false)) ≡ false = sym (list_any-append (λ y. eqb y.0 x.0) xs (k ∷ [])) ∙ not-true (stands_in x (xs ++ k ∷ [])) parts.0 in
    let both : (stands_in x xs ≡ false) × ((eqb k.0 x.0 || false) ≡ false) = or_parts (stands_in x xs) (eqb k.0 x.0 || false) absent in
    let apart : (eqb k.0 x.0 ≡ false) × (false ≡ false) = or_parts (eqb k.0 x.0) false both.1 in
    (and_from (not (stands_in x xs)) (each_once xs) (not_from_false (stands_in x xs) both.0) rest.0, or_from (eqb x.0 k.0) (stands_in k xs) (eqb_flips k.0 x.0 apart.0) rest.1)

-- the same test, the other way round
stands_in_flipped : (l : LockId) (ks : List LockId) → list_any (λ k. eqb l.0 k.0) ks ≡ stands_in l ks
stands_in_flipped l [] = refl
stands_in_flipped l (k ∷ ks) = ap (λ b. b || list_any (λ x. eqb l.0 x.0) ks) (nat_eq_equiv.symm l.0 k.0) ∙ ap (λ b. eqb k.0 l.0 || b) (stands_in_flipped l ks)

by_number : IsEquivalence (λ (k l : LockId). eqb k.0 l.0)
by_number = record { refl = λ k. nat_eq_equiv.refl k.0; symm = λ k l. nat_eq_equiv.symm k.0 l.0; congr = λ k l m. nat_eq_equiv.congr k.0 l.0 m.0 }

apart_from_absent : (l : LockId) (ks : List LockId) → stands_in l ks ≡ false → AllByRecursion (λ (k : LockId). eqb l.0 k.0 ≡ false) ks
apart_from_absent l [] h = tt
apart_from_absent l (k ∷ ks) h =
    let parts : (eqb k.0 l.0 ≡ false) × (stands_in l ks ≡ false) = or_parts (eqb k.0 l.0) (stands_in l ks) h in
    (eqb_flips k.0 l.0 parts.0, apart_from_absent l ks parts.1)

distinct_from_once : (ks : List LockId) → each_once ks ≡ true → IsDistinct (λ (k l : LockId). eqb k.0 l.0) ks
unfolding IsDistinct
distinct_from_once [] h = tt
distinct_from_once (k ∷ ks) h =
    let parts : (not (stands_in k ks) ≡ true) × (each_once ks ≡ true) = and_parts (not (stands_in k ks)) (each_once ks) h in
    (apart_from_absent k ks (not-true (stands_in k ks) parts.0), distinct_from_once ks parts.1)

lock_at : ℕ → LockId
lock_at n = record { 0 = n }

-- locks below n that stand in a list once are at most n
pub length-le_from_once : (n : ℕ) (ks : List LockId) → each_once ks ≡ true → ((l : LockId) → stands_in l ks ≡ true → l.0 < n) → length ks ≤ n
unfolding lock_at
length-le_from_once n ks once below =
    let all : List LockId = map lock_at (range_with_len 0 n) in
    let long : length (map lock_at (range_with_len 0 n)) ≡ n = length-map-range_with_len lock_at 0 n in
    let fits : length ks ≤ length (map lock_at (range_with_len 0 n)) = length-le_from_is_member by_number ks (map lock_at (range_with_len 0 n)) (distinct_from_once ks once)
    (λ q h. let small : q.0 < n = below q (sym (stands_in_flipped q ks) ∙ h) in
    let short : q.0 < length (map lock_at (range_with_len 0 n)) = omega arith in
    list_any_at (λ (x : LockId). eqb q.0 x.0) (map lock_at (range_with_len 0 n)) q.0 q short
    (ap (λ (x : LockId). eqb q.0 x.0) (get_or-map-range_with_len lock_at 0 n q.0 q.0 q small (omega arith)) ∙ nat_eq_equiv.refl q.0)) in
    omega arith
