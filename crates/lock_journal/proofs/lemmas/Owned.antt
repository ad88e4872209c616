-- What the list of a worker's locks says of their owners.
use Rattle.std.proofs.Common.{◌≡◌, ◌≢◌, ℕ, zero, suc, ◌+◌, ◌<◌, Bool, true, false, cond, ◌||◌, List, [], ◌∷◌, get_or, length}
use Rattle.std.proofs.Common.{Option, None, arith, refl, ap, ◌∙◌}
use Rattle.std.specs.List.{filter, list_any}
use Rattle.std.proofs.lemmas.Bool.{eq-eqb, false≢true, ne_eqb}
use Rattle.lock_journal.specs.Names.{StateView, is_owner, owns, owns_any, stands_in, IsLockOf, LockId, WorkerId, owned, owned_from}

some_owned : (n : ℕ) (os : List (Option WorkerId)) (w : WorkerId) → owned_from n os w ≢ [] → list_any (λ o. is_owner o w) os ≡ true
some_owned n [] w some = absurd (some refl)
some_owned n (o ∷ os) w some = at (is_owner o w) refl (some_owned (n + 1) os w)
  where
    at : (b : Bool) → is_owner o w ≡ b → (owned_from (n + 1) os w ≢ [] → list_any (λ o. is_owner o w) os ≡ true) → list_any (λ o. is_owner o w) (o ∷ os) ≡ true
    at true is rest = ap (λ b. b || list_any (λ o. is_owner o w) os) is
    at false is rest =
        ap (λ b. b || list_any (λ o. is_owner o w) os) is
        ∙ rest (λ none. some (ap (λ b. cond b (record { 0 = n } ∷ owned_from (n + 1) os w) (owned_from (n + 1) os w)) is ∙ none))

-- whose list of locks isn't empty owns one
pub owns_some : (s : StateView) (w : WorkerId) → owned s w ≢ [] → owns_any s w ≡ true
owns_some s w = some_owned 0 s.owners w

below : (n k : ℕ) (os : List (Option WorkerId)) (w : WorkerId) → k < n → stands_in (record { 0 = k }) (owned_from n os w) ≡ false
below n k [] w low = refl
below n k (o ∷ os) w low =
    let rest : stands_in (record { 0 = k }) (owned_from (n + 1) os w) ≡ false = below (n + 1) k os w (omega (arith, low)) in
    elim (is_owner o w) as (λ b. stands_in (record { 0 = k }) (cond b (record { 0 = n } ∷ owned_from (n + 1) os w) (owned_from (n + 1) os w)) ≡ false) [
      | true ↦ ap (λ b. b || stands_in (record { 0 = k }) (owned_from (n + 1) os w)) (ne_eqb n k (λ same. absurd (omega (arith, low, same)))) ∙ rest
      | false ↦ rest
    ]

at_place : (n i : ℕ) (os : List (Option WorkerId)) (w : WorkerId) → stands_in (record { 0 = n + i }) (owned_from n os w) ≡ is_owner (get_or os i None) w
at_place n i [] w = refl
at_place n zero (o ∷ os) w =
    let rest : stands_in (record { 0 = n + 0 }) (owned_from (n + 1) os w) ≡ false = below (n + 1) (n + 0) os w (omega arith) in
    elim (is_owner o w) as (λ b. stands_in (record { 0 = n + 0 }) (cond b (record { 0 = n } ∷ owned_from (n + 1) os w) (owned_from (n + 1) os w)) ≡ b) [
      | true ↦ ap (λ b. b || stands_in (record { 0 = n + 0 }) (owned_from (n + 1) os w)) (eq-eqb n (n + 0) (omega arith))
      | false ↦ rest
    ]
at_place n (suc i) (o ∷ os) w =
    let next : n + suc i ≡ (n + 1) + i = omega arith in
    let rest : stands_in (record { 0 = n + suc i }) (owned_from (n + 1) os w) ≡ is_owner (get_or os i None) w =
    ap (λ (k : ℕ). stands_in (record { 0 = k }) (owned_from (n + 1) os w)) next ∙ at_place (n + 1) i os w in
    elim (is_owner o w) as (λ b. stands_in (record { 0 = n + suc i }) (cond b (record { 0 = n } ∷ owned_from (n + 1) os w) (owned_from (n + 1) os w)) ≡ is_owner (get_or os i None) w) [
      | true ↦ ap (λ b. b || stands_in (record { 0 = n + suc i }) (owned_from (n + 1) os w)) (ne_eqb n (n + suc i) (λ same. absurd (omega (arith, same)))) ∙ rest
      | false ↦ rest
    ]

-- the list has just the locks that the worker owns
pub stands_in_owned : (s : StateView) (w : WorkerId) (l : LockId) → stands_in l (owned s w) ≡ owns s w l
stands_in_owned s w l =
    let same : l.0 ≡ 0 + l.0 = omega arith in
    ap (λ (k : ℕ). stands_in (record { 0 = k }) (owned s w)) same ∙ at_place 0 l.0 s.owners w

owner_within : (os : List (Option WorkerId)) (i : ℕ) (w : WorkerId) → is_owner (get_or os i None) w ≡ true → i < length os
owner_within [] i w h = absurd (false≢true h)
owner_within (o ∷ os) zero w h = omega arith
owner_within (o ∷ os) (suc i) w h = omega (arith, owner_within os i w h)

-- a lock that is owned is one of the state's
pub owned_there : (s : StateView) (w : WorkerId) (l : LockId) → owns s w l ≡ true → IsLockOf s l
owned_there s w l = owner_within s.owners l.0 w

pub filter_same : {X : Type 0} (p q : X → Bool) → ((x : X) → p x ≡ q x) → (xs : List X) → filter p xs ≡ filter q xs
filter_same p q same [] = refl
filter_same p q same (x ∷ xs) = (λ i. cond (same x i) (x ∷ filter_same p q same xs i) (filter_same p q same xs i))
