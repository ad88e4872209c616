-- Locks that strictly rise, and are the worker's, and are as many as it owns: they are those that it owns.
use Rattle.std.proofs.Common.{◌≡◌, ◌≢◌, ℕ, ◌<◌, ◌≤◌, ◌+◌, length, drop, List, [], ◌∷◌, true, false, leb, get_or, cond, refl, sym, ◌∙◌, ap, subst, arith, Option, None, inl, inr, zero-add}
use Rattle.std.specs.List.{All, AllByRecursion, count_by, list_all}
use Rattle.std.proofs.lemmas.Bool.{and_from, and_parts, cases_Bool, cases_eq, le-leb, leb-true, true≢false}
use Rattle.std.proofs.lemmas.List.{get_or_past, length-drop}
use Rattle.std.proofs.lemmas.List.Elements.{All-from_recursion}
use Rattle.resource_lock.specs.StateView.{StateView, is_owner, owns}
use Rattle.resource_lock.specs.declared.ids.LockId.{LockId}
use Rattle.resource_lock.specs.declared.ids.WorkerId.{WorkerId}
use Rattle.lock_transforms.specs.Table.{owned_from, owned}
use Rattle.lock_transforms.specs.Taking.{rises}
use Rattle.lock_transforms.proofs.Freed.{lock_at, length-owned, rest_of}

-- ---- the locks that a worker owns, from a number on

owned_here : (k : ℕ) (o : Option WorkerId) (os : List (Option WorkerId)) (w : WorkerId) → is_owner o w ≡ true → owned_from k (o ∷ os) w ≡ lock_at k ∷ owned_from (k + 1) os w
owned_here k o os w own = ap (λ b. cond b (lock_at k ∷ owned_from (k + 1) os w) (owned_from (k + 1) os w)) own

owned_later : (k : ℕ) (o : Option WorkerId) (os : List (Option WorkerId)) (w : WorkerId) → is_owner o w ≡ false → owned_from k (o ∷ os) w ≡ owned_from (k + 1) os w
owned_later k o os w other = ap (λ b. cond b (lock_at k ∷ owned_from (k + 1) os w) (owned_from (k + 1) os w)) other

more_owned : (k : ℕ) (o : Option WorkerId) (os : List (Option WorkerId)) (w : WorkerId) → length (owned_from (k + 1) os w) ≤ length (owned_from k (o ∷ os) w)
more_owned k o os w = elim (cases_Bool (is_owner o w)) [
  | inl own ↦ omega (arith, ap length (owned_here k o os w own))
  | inr other ↦ omega (arith, ap length (owned_later k o os w other))
]

owned_in : (n : ℕ) (os : List (Option WorkerId)) (w : WorkerId) → AllByRecursion (λ l. l.0 < n + length os) (owned_from n os w)
owned_in n [] w = tt
owned_in n (o ∷ os) w =
    let rest : AllByRecursion (λ l. l.0 < n + length (o ∷ os)) (owned_from (n + 1) os w) = subst (λ k. AllByRecursion (λ l. l.0 < k) (owned_from (n + 1) os w)) (omega arith) (owned_in (n + 1) os w) in
    elim (is_owner o w) as (λ b. AllByRecursion (λ l. l.0 < n + length (o ∷ os)) (cond b (lock_at n ∷ owned_from (n + 1) os w) (owned_from (n + 1) os w))) [
      | true ↦ (omega arith, rest)
      | false ↦ rest
    ]

-- they are locks of the state
pub owned_within : (s : StateView) (w : WorkerId) → All (λ l. l.0 < length s.owners) (owned s w)
owned_within s w = All-from_recursion (λ l. l.0 < length s.owners) (owned s w) (subst (λ k. AllByRecursion (λ l. l.0 < k) (owned s w)) (zero-add (length s.owners)) (owned_in 0 s.owners w))

-- a number of no lock is nobody's
pub owns_none : (s : StateView) (w : WorkerId) (l : LockId) → length s.owners ≤ l.0 → owns s w l ≡ false
owns_none s w l past = ap (λ o. is_owner o w) (get_or_past s.owners l.0 None past)

-- ---- locks that are named

-- What holds of the first of them, and of those behind it.
record First (k : ℕ) (s : StateView) (w : WorkerId) (l : LockId) (ls : List LockId) : Type 0 where
  least : k ≤ l.0
  is_own : owns s w l ≡ true
  rest_rise : rises (l.0 + 1) ls ≡ true
  rest_own : list_all (owns s w) ls ≡ true

first_of : (k : ℕ) (s : StateView) (w : WorkerId) (l : LockId) (ls : List LockId) → rises k (l ∷ ls) ≡ true → list_all (owns s w) (l ∷ ls) ≡ true → First k s w l ls
first_of k s w l ls rise own =
    let front = and_parts (leb k l.0) (rises (l.0 + 1) ls) rise in
    let both = and_parts (owns s w l) (list_all (owns s w) ls) own in
    record { least = leb-true k l.0 front.0; is_own = both.0; rest_rise = front.1; rest_own = both.1 }

-- where the first is another than the lock of the number, all are from the next number on
rise_past : (k : ℕ) (l : LockId) (ls : List LockId) → k ≤ l.0 → l.0 ≢ k → rises (l.0 + 1) ls ≡ true → rises (k + 1) (l ∷ ls) ≡ true
rise_past k l ls least ne rise = and_from (leb (k + 1) l.0) (rises (l.0 + 1) ls) (le-leb (k + 1) l.0 (omega (arith, least, ne))) rise

none_past : (k : ℕ) (s : StateView) (w : WorkerId) (l : LockId) (ls : List LockId) → drop k s.owners ≡ [] → rises k (l ∷ ls) ≡ true → list_all (owns s w) (l ∷ ls) ≡ true → ⊥
none_past k s w l ls is rise own =
    let first = first_of k s w l ls rise own in
    let past : length s.owners ≤ l.0 = omega (arith, first.least, ap length is, length-drop k s.owners) in
    true≢false (sym first.is_own ∙ owns_none s w l past)

-- the lock of the number is the first of them
own_here : (k : ℕ) (s : StateView) (w : WorkerId) (l : LockId) (o : Option WorkerId) → l.0 ≡ k → get_or s.owners k None ≡ o → owns s w l ≡ true → is_owner o w ≡ true
own_here k s w l o same is own = ap (λ p. is_owner p w) (sym is ∙ ap (λ n. get_or s.owners n None) (sym same)) ∙ own

few_named : (k : ℕ) (os : List (Option WorkerId)) (s : StateView) (w : WorkerId) (ls : List LockId) → drop k s.owners ≡ os → rises k ls ≡ true → list_all (owns s w) ls ≡ true → length ls ≤ length (owned_from k os w)
few_named k [] s w [] is rise own = omega arith
few_named k [] s w (l ∷ ls) is rise own = absurd (none_past k s w l ls is rise own)
few_named k (o ∷ os) s w [] is rise own = omega arith
few_named k (o ∷ os) s w (l ∷ ls) is rise own =
    let rest : (drop (k + 1) s.owners ≡ os) × (get_or s.owners k None ≡ o) = rest_of s.owners os o k is in
    let first : First k s w l ls = first_of k s w l ls rise own in
    elim (cases_eq l.0 k) [
      | inl same ↦
          let here = own_here k s w l o same rest.1 first.is_own in
          omega (arith, ap length (owned_here k o os w here), few_named (k + 1) os s w ls rest.0 (ap (λ n. rises (n + 1) ls) (sym same) ∙ first.rest_rise) first.rest_own)
      | inr ne ↦ omega (arith, more_owned k o os w, few_named (k + 1) os s w (l ∷ ls) rest.0 (rise_past k l ls first.least ne first.rest_rise) own)
    ]

none_long : {X : Type 0} (xs : List X) → 0 ≡ length xs → [] ≡ xs
none_long [] none = refl
none_long (x ∷ xs) none = absurd (omega (arith, none))

all_named : (k : ℕ) (os : List (Option WorkerId)) (s : StateView) (w : WorkerId) (ls : List LockId) → drop k s.owners ≡ os → rises k ls ≡ true → list_all (owns s w) ls ≡ true → length ls ≡ length (owned_from k os w)
    → ls ≡ owned_from k os w
all_named k [] s w [] is rise own many = refl
all_named k [] s w (l ∷ ls) is rise own many = absurd (none_past k s w l ls is rise own)
all_named k (o ∷ os) s w [] is rise own many = none_long (owned_from k (o ∷ os) w) many
all_named k (o ∷ os) s w (l ∷ ls) is rise own many =
    let rest : (drop (k + 1) s.owners ≡ os) × (get_or s.owners k None ≡ o) = rest_of s.owners os o k is in
    let first : First k s w l ls = first_of k s w l ls rise own in
    elim (cases_eq l.0 k) [
      | inl same ↦
          let here = own_here k s w l o same rest.1 first.is_own in
          let tail : ls ≡ owned_from (k + 1) os w = all_named (k + 1) os s w ls rest.0 (ap (λ n. rises (n + 1) ls) (sym same) ∙ first.rest_rise) first.rest_own (omega (arith, many, ap length (owned_here k o os w here))) in
          ap (λ n. lock_at n ∷ ls) same ∙ ap (λ ks. lock_at k ∷ ks) tail ∙ sym (owned_here k o os w here)
      | inr ne ↦
          let past = rise_past k l ls first.least ne first.rest_rise in
          elim (cases_Bool (is_owner o w)) [
            | inl here ↦ absurd (omega (arith, many, ap length (owned_here k o os w here), few_named (k + 1) os s w (l ∷ ls) rest.0 past own))
            | inr other ↦ all_named (k + 1) os s w (l ∷ ls) rest.0 past own (omega (arith, many, ap length (owned_later k o os w other))) ∙ sym (owned_later k o os w other)
          ]
    ]

pub named_are_owned : (s : StateView) (w : WorkerId) (ls : List LockId) → rises 0 ls ≡ true → list_all (owns s w) ls ≡ true → length ls ≡ count_by (λ o. is_owner o w) s.owners → ls ≡ owned s w
named_are_owned s w ls rise own many = all_named 0 s.owners s w ls refl rise own (many ∙ sym (length-owned s w))
