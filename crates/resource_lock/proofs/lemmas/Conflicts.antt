-- Who is kept from a lock, and how the owned locks are counted.
use Rattle.std.proofs.Common.{◌≡◌, ◌↔◌, ℕ, suc, ◌+◌, ◌<◌, List, [], ◌∷◌, length, get_or, Bool, true, false, not, ◌&&◌, ◌||◌, eqb, ltb, Option, None, Some, inl, inr, refl, sym, ◌∙◌, ap, arith}
use Rattle.std.specs.List.{count_by, list_any}
use Rattle.std.specs.Option.{is_none}
use Rattle.std.proofs.lemmas.Bool.{and_from, and_parts, both_ways, cases_Bool, cases_lt, eq-eqb, eqb-true, false_from_ne_true, false≢true, lt-ltb, ltb-true, or_cases, or_left, or_right}
use Rattle.std.proofs.lemmas.List.{get_or_past}
use Rattle.std.proofs.lemmas.List.Folds.{list_any_at}
use Rattle.std.proofs.lemmas.List.Sums.{sum_by-cons}
use Rattle.resource_lock.proofs.lemmas.Counted.{any_counted}
use Rattle.resource_lock.proofs.lemmas.Lists.{one_if}
use Rattle.resource_lock.proofs.lemmas.Undo.{same_lock}
use Rattle.resource_lock.specs.Conflicts.{IsKeptFrom, IsTaken}
use Rattle.resource_lock.specs.StateView.{StateView, all_owner, conflict, is_all, is_other, is_owned, is_owner, is_taken, kept_from, names_lock, owner_if, owner_of}
use Rattle.resource_lock.specs.declared.ids.LockId.{LockId}
use Rattle.resource_lock.specs.declared.ids.WorkerId.{WorkerId}

-- an owner is the worker or another
one_owner : (o : Option WorkerId) (w : WorkerId) → one_if (is_owned o) ≡ one_if (is_owner o w) + one_if (is_other o w)
one_owner None w = refl
one_owner (Some v) w = elim (cases_Bool (eqb v.0 w.0)) [
  | inl same ↦ omega (arith, ap one_if same, ap (λ b. one_if (not b)) same)
  | inr other ↦ omega (arith, ap one_if other, ap (λ b. one_if (not b)) other)
]

owners_split : (w : WorkerId) (xs : List (Option WorkerId)) → count_by is_owned xs ≡ count_by (λ o. is_owner o w) xs + count_by (λ o. is_other o w) xs
owners_split w [] = refl
owners_split w (x ∷ xs) = omega (arith, sum_by-cons (λ o. one_if (is_owned o)) x xs, sum_by-cons (λ o. one_if (is_owner o w)) x xs, sum_by-cons (λ o. one_if (is_other o w)) x xs, one_owner x w, owners_split w xs)

same_order : (a b c d : ℕ) → (a < b → c < d) → (c < d → a < b) → ltb a b ≡ ltb c d
same_order a b c d to from = elim (cases_Bool (ltb a b)) [
  | inl less ↦ less ∙ sym (lt-ltb c d (to (ltb-true a b less)))
  | inr more ↦ more ∙ sym (false_from_ne_true (ltb c d) (λ less. both_ways (ltb a b) more (lt-ltb a b (from (ltb-true c d less)))))
]

-- another worker owns a lock where more are owned than by this one
pub others_counted : (w : WorkerId) (xs : List (Option WorkerId)) → list_any (λ o. is_other o w) xs ≡ ltb (count_by (λ o. is_owner o w) xs) (count_by is_owned xs)
others_counted w xs =
    let split : count_by is_owned xs ≡ count_by (λ o. is_owner o w) xs + count_by (λ o. is_other o w) xs = owners_split w xs in
    any_counted (λ o. is_other o w) xs ∙ same_order 0 (count_by (λ o. is_other o w) xs) (count_by (λ o. is_owner o w) xs) (count_by is_owned xs) (λ some. omega (arith, split, some)) (λ more. omega (arith, split, more))

-- ---- by the locks that conflict

abbrev pub lock_at : ℕ → LockId
lock_at n = record { 0 = n }

-- some member of a list passes
some_passes : (p : Option WorkerId → Bool) (xs : List (Option WorkerId)) → list_any p xs ≡ true → (i : ℕ) × (p (get_or xs i None) ≡ true)
some_passes p [] h = absurd (false≢true h)
some_passes p (x ∷ xs) h = elim (or_cases (p x) (list_any p xs) h) [
  | inl first ↦ (0, first)
  | inr later ↦ let found = some_passes p xs later in (suc found.0, found.1)
]

-- the all-projects lock has the owner of the lock that it is
pub owner_named : (s : StateView) (a : LockId) (all : Option LockId) → names_lock all a ≡ true → owner_if s all ≡ owner_of s a
owner_named s a None h = absurd (false≢true h)
owner_named s a (Some k) h = ap (owner_of s) (same_lock k a (eqb-true k.0 a.0 h))

-- what passes of the owner of the all-projects lock passes of a lock's, where nothing passes of no owner
all_owner_at : (s : StateView) (p : Option WorkerId → Bool) → p None ≡ false → (all : Option LockId) → p (owner_if s all) ≡ true → (k : LockId) × ((names_lock all k ≡ true) × (p (owner_of s k) ≡ true))
all_owner_at s p none None h = absurd (both_ways (p None) none h)
all_owner_at s p none (Some k) h = (k, (eq-eqb k.0 k.0 refl, h))

-- A lock that conflicts passes by its owner.
record Passes (s : StateView) (p : Option WorkerId → Bool) (l : LockId) : Type 0 where
  pub lock : LockId
  pub conflicts : conflict s lock l ≡ true
  pub owner : p (owner_of s lock) ≡ true

abbrev passes : StateView → (Option WorkerId → Bool) → LockId → Bool
passes s p l = p (owner_of s l) || p (all_owner s) || (is_all s l && list_any p s.owners)

found : (s : StateView) (p : Option WorkerId → Bool) (l : LockId) → p None ≡ false → passes s p l ≡ true → Passes s p l
found s p l none h = elim (or_cases (p (owner_of s l) || p (all_owner s)) (is_all s l && list_any p s.owners) h) [
  | inl first ↦ elim (or_cases (p (owner_of s l)) (p (all_owner s)) first) [
    | inl own ↦ record { lock = l; conflicts = or_left (eqb l.0 l.0 || is_all s l) (is_all s l) (or_left (eqb l.0 l.0) (is_all s l) (eq-eqb l.0 l.0 refl)); owner = own }
    | inr all ↦ let at = all_owner_at s p none s.all all in record { lock = at.0; conflicts = or_left (eqb at.0.0 l.0 || is_all s at.0) (is_all s l) (or_right (eqb at.0.0 l.0) (is_all s at.0) at.1.0); owner = at.1.1 }
  ]
  | inr any ↦ let both = and_parts (is_all s l) (list_any p s.owners) any in
      let at = some_passes p s.owners both.1 in
      record { lock = lock_at at.0; conflicts = or_right (eqb at.0 l.0 || is_all s (lock_at at.0)) (is_all s l) both.0; owner = at.1 }
]

any_at : (s : StateView) (p : Option WorkerId → Bool) (k : LockId) → p None ≡ false → p (owner_of s k) ≡ true → list_any p s.owners ≡ true
any_at s p k none h = elim (cases_lt k.0 (length s.owners)) [
  | inl within ↦ list_any_at p s.owners k.0 None within h
  | inr past ↦ absurd (both_ways (p (owner_of s k)) (ap p (get_or_past s.owners k.0 None past) ∙ none) h)
]

given : (s : StateView) (p : Option WorkerId → Bool) (l : LockId) → p None ≡ false → Passes s p l → passes s p l ≡ true
given s p l none is = elim (or_cases (eqb is.lock.0 l.0 || is_all s is.lock) (is_all s l) is.conflicts) [
  | inl first ↦ or_left (p (owner_of s l) || p (all_owner s)) (is_all s l && list_any p s.owners) (elim (or_cases (eqb is.lock.0 l.0) (is_all s is.lock) first) [
    | inl same ↦ or_left (p (owner_of s l)) (p (all_owner s)) (ap (λ k. p (owner_of s k)) (sym (same_lock is.lock l (eqb-true is.lock.0 l.0 same))) ∙ is.owner)
    | inr all ↦ or_right (p (owner_of s l)) (p (all_owner s)) (ap p (owner_named s is.lock s.all all) ∙ is.owner)
  ])
  | inr all ↦ or_right (p (owner_of s l) || p (all_owner s)) (is_all s l && list_any p s.owners) (and_from (is_all s l) (list_any p s.owners) all (any_at s p is.lock none is.owner))
]

pub kept_exactly : (s : StateView) (w : WorkerId) (l : LockId) → (kept_from s w l ≡ true) ↔ IsKeptFrom s w l
kept_exactly s w l = (
  λ h. let at = found s (λ o. is_other o w) l refl h in record { lock = at.lock; conflicts = at.conflicts; owner = at.owner },
  λ is. given s (λ o. is_other o w) l refl (record { lock = is.lock; conflicts = is.conflicts; owner = is.owner }),
)

pub taken_exactly : (s : StateView) (l : LockId) → (is_taken s l ≡ true) ↔ IsTaken s l
taken_exactly s l = (
  λ h. let at = found s is_owned l refl h in record { lock = at.lock; conflicts = at.conflicts; owner = at.owner },
  λ is. given s is_owned l refl (record { lock = is.lock; conflicts = is.conflicts; owner = is.owner }),
)

-- ---- a lock that nobody has taken

-- nobody is kept from it, and nobody owns it
pub free_for_all : (s : StateView) (w : WorkerId) (l : LockId) → is_taken s l ≡ false → kept_from s w l ≡ false
free_for_all s w l h = false_from_ne_true (kept_from s w l) (λ kept.
    let at = (kept_exactly s w l).0 kept in
    both_ways (is_taken s l) h ((taken_exactly s l).1 (record { lock = at.lock; conflicts = at.conflicts; owner = owned_of (owner_of s at.lock) w at.owner })))
  where
    owned_of : (o : Option WorkerId) (w : WorkerId) → is_other o w ≡ true → is_owned o ≡ true
    owned_of None w h = absurd (false≢true h)
    owned_of (Some v) w h = refl

pub free_of_owner : (s : StateView) (l : LockId) → is_taken s l ≡ false → is_none (owner_of s l) ≡ true
free_of_owner s l h = at (owner_of s l) (false_from_ne_true (is_owned (owner_of s l)) (λ owned. both_ways (is_taken s l) h (or_left (is_owned (owner_of s l) || is_owned (all_owner s)) (is_all s l && list_any is_owned s.owners) (or_left (is_owned (owner_of s l)) (is_owned (all_owner s)) owned))))
  where
    at : (o : Option WorkerId) → is_owned o ≡ false → is_none o ≡ true
    at None h = refl
    at (Some v) h = absurd (false≢true (sym h))
