-- Workers own one lock of each service at most.
use Rattle.std.proofs.Common.{◌≡◌, ◌<◌, ◌≤◌, ◌+◌, ◌⊎◌, ℕ, zero, suc, Bool, true, false, cond, List, [], ◌∷◌, length, get_or, Option, None, inl, inr, sym, ap, ◌∙◌, subst, arith}
use Rattle.std.proofs.lemmas.Bool.{cases_lt, false≢true}
use Rattle.std.proofs.lemmas.List.{get_or_past}
use Rattle.lock_journal.specs.Names.{StateView, is_owner, owner_of, LockId, WorkerId, owned, owned_from}
use Rattle.resource_lock.proofs.lemmas.Undo.{owner_from, same_lock}
use Rattle.worker_notes.proofs.lemmas.Nothing.{owns_none}
use Rattle.shared_services.specs.Services.{AreOneOfEach, AreServices, IsLockOfService, maximum_of, no_lock}
use Rattle.shared_services.proofs.lemmas.Places.{ends_before}
use Rattle.shared_services.specs.Done.{OwnsOneOfEach}

record IsAmong (locks : List LockId) (n : ℕ) : Type 0 where
  pub place : ℕ
  pub low : place < length locks
  pub is : (get_or locks place no_lock).0 ≡ n

-- a lock that the worker owns stands in the list of its locks
member : (n : ℕ) (os : List (Option WorkerId)) (w : WorkerId) (i : ℕ) → is_owner (get_or os i None) w ≡ true → IsAmong (owned_from n os w) (n + i)
member n [] w i own = absurd (false≢true own)
member n (o ∷ os) w zero own = subst (λ b. IsAmong (cond b (record { 0 = n } ∷ owned_from (n + 1) os w) (owned_from (n + 1) os w)) (n + 0)) (sym own) record { place = 0; low = omega arith; is = omega arith }
member n (o ∷ os) w (suc i) own = at (is_owner o w) (member (n + 1) os w i own)
  where
    at : (b : Bool) → IsAmong (owned_from (n + 1) os w) ((n + 1) + i) → IsAmong (cond b (record { 0 = n } ∷ owned_from (n + 1) os w) (owned_from (n + 1) os w)) (n + suc i)
    at true m = record { place = suc m.place; low = omega (arith, m.low); is = omega (arith, m.is) }
    at false m = record { place = m.place; low = m.low; is = omega (arith, m.is) }

-- services have no lock in common
one_service : (maxima : List ℕ) (a b : ℕ) (l : LockId) → IsLockOfService maxima a l → IsLockOfService maxima b l → a < b → ⊥
one_service maxima a b l of_a of_b before = at (cases_lt b (length maxima))
  where
    at : (b < length maxima) ⊎ (length maxima ≤ b) → ⊥
    at (inl known) = let ends = ends_before maxima a b before (omega (arith, known)) in omega (arith, ends, of_a.1, of_b.0)
    at (inr past) = let none : maximum_of maxima b ≡ 0 = get_or_past maxima b 0 past in omega (arith, none, of_b.0, of_b.1)

same_service : (maxima : List ℕ) (a b : ℕ) (l : LockId) → IsLockOfService maxima a l → IsLockOfService maxima b l → a ≡ b
same_service maxima a b l of_a of_b = at (cases_lt a b) (cases_lt b a)
  where
    at : (a < b) ⊎ (b ≤ a) → (b < a) ⊎ (a ≤ b) → a ≡ b
    at (inl low) _ = absurd (one_service maxima a b l of_a of_b low)
    at (inr high) (inl low) = absurd (one_service maxima b a l of_b of_a low)
    at (inr high) (inr low) = omega (arith, high, low)

same_place : (maxima asked : List ℕ) → AreServices maxima asked → (a b : ℕ) → a < length asked → b < length asked → get_or asked a 0 ≡ get_or asked b 0 → a ≡ b
same_place maxima asked are a b low_a low_b same = at (cases_lt a b) (cases_lt b a)
  where
    at : (a < b) ⊎ (b ≤ a) → (b < a) ⊎ (a ≤ b) → a ≡ b
    at (inl low) _ = let rises : get_or asked a 0 < get_or asked b 0 = are.rising a b low low_b in absurd (omega (arith, rises, same))
    at (inr high) (inl low) = let rises : get_or asked b 0 < get_or asked a 0 = are.rising b a low low_a in absurd (omega (arith, rises, same))
    at (inr high) (inr low) = omega (arith, high, low)

-- whoever owns one lock of each of some services owns no two of one service
pub owns_one : (maxima asked : List ℕ) (locks : List LockId) (s : StateView) (w : WorkerId) → AreServices maxima asked → AreOneOfEach maxima asked locks → owned s w ≡ locks → OwnsOneOfEach maxima s w
owns_one maxima asked locks s w are each is = λ service k l of_k of_l own_k own_l.
    let m : IsAmong locks (0 + k.0) = subst (λ (ls : List LockId). IsAmong ls (0 + k.0)) is (member 0 s.owners w k.0 own_k) in
    let n : IsAmong locks (0 + l.0) = subst (λ (ls : List LockId). IsAmong ls (0 + l.0)) is (member 0 s.owners w l.0 own_l) in
    let low_m : m.place < length asked = omega (arith, m.low, each.count) in
    let low_n : n.place < length asked = omega (arith, n.low, each.count) in
    let at_m : get_or locks m.place no_lock ≡ k = same_lock (get_or locks m.place no_lock) k (omega (arith, m.is)) in
    let at_n : get_or locks n.place no_lock ≡ l = same_lock (get_or locks n.place no_lock) l (omega (arith, n.is)) in
    let service_m : get_or asked m.place 0 ≡ service = same_service maxima (get_or asked m.place 0) service k (subst (IsLockOfService maxima (get_or asked m.place 0)) at_m (each.of_service m.place low_m)) of_k in
    let service_n : get_or asked n.place 0 ≡ service = same_service maxima (get_or asked n.place 0) service l (subst (IsLockOfService maxima (get_or asked n.place 0)) at_n (each.of_service n.place low_n)) of_l in
    let same : m.place ≡ n.place = same_place maxima asked are m.place n.place low_m low_n (service_m ∙ sym service_n) in
    sym at_m ∙ (ap (λ (i : ℕ). get_or locks i no_lock) same ∙ at_n)

pub owns_none_of : (maxima : List ℕ) (s : StateView) (w : WorkerId) → owned s w ≡ [] → OwnsOneOfEach maxima s w
owns_none_of maxima s w none = λ service k l of_k of_l own_k own_l. absurd (owns_none s w none k (owner_from (owner_of s k) w own_k))
