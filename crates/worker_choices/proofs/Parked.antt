-- A parked lock, by its place.
use Rattle.std.proofs.Common.{◌≡◌, ℕ, zero, suc, ◌<◌, ◌||◌, Bool, true, false, List, [], ◌∷◌, length, get_or, eqb, refl, arith, subst, sym}
use Rattle.std.proofs.lemmas.Bool.{eq-eqb}
use Rattle.lock_journal.specs.Names.{stands_in, LockId}

or_left : (a b : Bool) → a ≡ true → (a || b) ≡ true
or_left true b is = refl
or_left false b is = absurd (cc)

or_right : (a b : Bool) → b ≡ true → (a || b) ≡ true
or_right true b is = refl
or_right false b is = is

-- what stands at a place of a list stands in it
pub stands_at : (ls : List LockId) (i : ℕ) (d : LockId) → i < length ls → stands_in (get_or ls i d) ls ≡ true
stands_at [] i d lt = absurd (omega arith)
stands_at (l ∷ ls) zero d lt = or_left (eqb l.0 l.0) (stands_in l ls) (eq-eqb l.0 l.0 refl)
stands_at (l ∷ ls) (suc i) d lt = or_right (eqb l.0 (get_or ls i d).0) (stands_in (get_or ls i d) ls) (stands_at ls i d (omega arith))

-- what stands at a place of a worker's parked locks is one of them
pub parked_at : (ls parked : List LockId) (l : LockId) (i : ℕ) → ls ≡ parked → i < length ls → l ≡ get_or ls i l → stands_in l parked ≡ true
parked_at ls parked l i same lt at =
    subst (λ (ks : List LockId). stands_in l ks ≡ true) same (subst (λ (k : LockId). stands_in k ls ≡ true) (sym at) (stands_at ls i l lt))
