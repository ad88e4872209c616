-- What the locks that were chosen come to.
use Rattle.std.proofs.Common.{◌≡◌, ◌<◌, ◌≤◌, ◌+◌, ℕ, zero, suc, Bool, true, false, not, cond, ◌&&◌, ◌||◌, List, [], ◌∷◌, ◌++◌, length, get_or, map, nat_eq, nat_lt, None, Option, refl, sym, ap, ◌∙◌, arith}
use Rattle.std.specs.List.{filter, list_all, list_any}
use Rattle.std.proofs.lemmas.Bool.{and_from, and_parts, eqb-true, false≢true, le-leb, lt-ltb, ltb-false}
use Rattle.lock_journal.specs.Names.{GraphView, StateView, holding_of, is_owner, leases_out, owner_of, owns, runs_any, stands_in, can_lease, Lock}
use Rattle.lock_journal.specs.Names.{Take, LockId, WorkerId, condition, acquired, can_take_all, is_open, may_acquire, rises}
use Rattle.resource_lock.specs.StateView.{all_owner, is_all, is_other, names_lock, owner_if}
use Rattle.resource_lock.specs.Trying.{can_own}
use Rattle.lock_transforms.specs.declared.entries.Kind.TheVariants as kinds
use Rattle.shared_services.specs.Services.{AreLowestFree, AreOneOfEach, AreServices, IsLockOfService, lock_count, no_lock}
use Rattle.shared_services.specs.Takings.{has_nothing, taken}
use Rattle.shared_services.proofs.lemmas.Places.{ends_before, ends_within}

-- strictly rising numbers are at least their places
at_least : (asked : List ℕ) → ((i j : ℕ) → i < j → j < length asked → get_or asked i 0 < get_or asked j 0) → (i : ℕ) → i < length asked → i ≤ get_or asked i 0
at_least asked rising zero low = omega arith
at_least asked rising (suc i) low =
    let rest : i ≤ get_or asked i 0 = at_least asked rising i (omega (arith, low)) in
    let next : get_or asked i 0 < get_or asked (suc i) 0 = rising i (suc i) (omega arith) low in
    omega (arith, rest, next)

-- no more services can be asked for than there are
pub few_asked : (maxima asked : List ℕ) → AreServices maxima asked → length asked ≤ length maxima
few_asked maxima asked are = at (length asked) refl
  where
    at : (n : ℕ) → n ≡ length asked → length asked ≤ length maxima
    at zero is = omega (arith, is)
    at (suc n) is =
        let low : n < length asked = omega (arith, is) in
        let least : n ≤ get_or asked n 0 = at_least asked are.rising n low in
        let known : get_or asked n 0 < length maxima = are.known n 0 low in
        omega (arith, least, known, is)

rise_from : (low : ℕ) (ls : List LockId) → ((i : ℕ) → i < length ls → low ≤ (get_or ls i no_lock).0) → ((i j : ℕ) → i < j → j < length ls → (get_or ls i no_lock).0 < (get_or ls j no_lock).0) → rises low ls ≡ true
rise_from low [] least rising = refl
rise_from low (l ∷ ls) least rising =
    and_from _ (rises (l.0 + 1) ls) (le-leb low l.0 (least 0 (omega arith)))
    (rise_from (l.0 + 1) ls (λ i inside. let next : l.0 < (get_or ls i no_lock).0 = rising 0 (suc i) (omega arith) (omega (arith, inside)) in omega (arith, next)) (λ i j before inside. rising (suc i) (suc j) (omega (arith, before)) (omega (arith, inside))))

pub each_rises : (maxima asked : List ℕ) (locks : List LockId) → AreServices maxima asked → AreOneOfEach maxima asked locks → rises 0 locks ≡ true
each_rises maxima asked locks are each = rise_from 0 locks (λ i inside. omega arith) (λ i j before inside.
    let high : j < length asked = omega (arith, inside, each.count) in
    let a : IsLockOfService maxima (get_or asked i 0) (get_or locks i no_lock) = each.of_service i (omega (arith, before, high)) in
    let b : IsLockOfService maxima (get_or asked j 0) (get_or locks j no_lock) = each.of_service j high in
    let known : get_or asked j 0 < length maxima = are.known j 0 high in
    let ends = ends_before maxima (get_or asked i 0) (get_or asked j 0) (are.rising i j before high) (omega (arith, known)) in
    omega (arith, a.1, b.0, ends))

pub one_of_each : {maxima : List ℕ} {s : StateView} {asked : List ℕ} {locks : List LockId} → AreLowestFree maxima s asked locks → AreOneOfEach maxima asked locks
one_of_each chosen = record { count = chosen.count; of_service = λ i low. (chosen.lowest i low).of_service }

can_own_free : (s : StateView) (w : WorkerId) (l : LockId) → s.all ≡ None → owner_of s l ≡ None → can_own s w l ≡ true
can_own_free s w l none free =
    ap (λ (o : Option WorkerId). not (is_other o w || is_other (all_owner s) w || (is_all s l && list_any (λ p. is_other p w) s.owners))) free
    ∙ ap (λ (all : Option LockId). not (is_other (owner_if s all) w || (names_lock all l && list_any (λ p. is_other p w) s.owners))) none

-- locks that nobody owns can be taken wherever a lease can
pub can_take_free : (s : StateView) (w : WorkerId) (locks : List LockId) → s.all ≡ None → ((i : ℕ) → i < length locks → owner_of s (get_or locks i no_lock) ≡ None) → can_take_all s w locks ≡ can_lease s w
can_take_free s w [] none free = refl
can_take_free s w (l ∷ ls) none free =
    let rest : can_take_all s w ls ≡ can_lease s w = can_take_free s w ls none (λ i low. free (suc i) (omega (arith, low))) in
    ap (λ b. (b && list_all (can_own s w) ls) && can_lease s w) (can_own_free s w l none (free 0 (omega arith))) ∙ rest

none_owned : (s : StateView) (w : WorkerId) (locks : List LockId) → ((i : ℕ) → i < length locks → owner_of s (get_or locks i no_lock) ≡ None) → filter (λ l. not (owns s w l)) locks ≡ locks
none_owned s w [] free = refl
none_owned s w (l ∷ ls) free =
    let rest : filter (λ l. not (owns s w l)) ls ≡ ls = none_owned s w ls (λ i low. free (suc i) (omega (arith, low))) in
    let own : owns s w l ≡ false = ap (λ (o : Option WorkerId). is_owner o w) (free 0 (omega arith)) in
    (λ k. cond (not (own k)) (l ∷ rest k) (rest k))

pub acquired_free : (s : StateView) (w : WorkerId) (locks : List LockId) → ((i : ℕ) → i < length locks → owner_of s (get_or locks i no_lock) ≡ None) → (holding_of s w).lease ≡ false → acquired s w locks ≡ taken locks
acquired_free s w locks free lease = (λ k. map Lock (none_owned s w locks free k) ++ cond (lease k) [] (Take ∷ []))

-- a worker that has nothing
pub record HasNothing (s : StateView) (w : WorkerId) : Type 0 where
  pub lease : (holding_of s w).lease ≡ false
  pub blocked : (holding_of s w).blocked ≡ false
  pub parked : (holding_of s w).parked ≡ []
  pub runs : runs_any s w ≡ false

empty_of : (ls : List LockId) → nat_eq (length ls) 0 ≡ true → ls ≡ []
empty_of [] is = refl
empty_of (l ∷ ls) is = let none : length (l ∷ ls) ≡ 0 = eqb-true (length (l ∷ ls)) 0 is in absurd (omega (arith, none))

not_true : (b : Bool) → not b ≡ true → b ≡ false
not_true true is = absurd (false≢true is)
not_true false is = refl

pub nothing_of : (s : StateView) (w : WorkerId) → has_nothing s w ≡ true → HasNothing s w
nothing_of s w is =
    let three = and_parts (not (holding_of s w).lease && not (holding_of s w).blocked && nat_eq (length (holding_of s w).parked) 0) (not (runs_any s w)) is in
    let two = and_parts (not (holding_of s w).lease && not (holding_of s w).blocked) (nat_eq (length (holding_of s w).parked) 0) three.0 in
    let one = and_parts (not (holding_of s w).lease) (not (holding_of s w).blocked) two.0 in
    record {
      lease = not_true (holding_of s w).lease one.0;
      blocked = not_true (holding_of s w).blocked one.1;
      parked = empty_of (holding_of s w).parked two.1;
      runs = not_true (runs_any s w) three.1;
    }

open_each : (g : GraphView) (s : StateView) (w : WorkerId) (locks : List LockId) → (holding_of s w).parked ≡ [] → ((i : ℕ) → i < length locks → (get_or locks i no_lock).0 < g.locks) → list_all (is_open g s w) locks ≡ true
open_each g s w [] none low = refl
open_each g s w (l ∷ ls) none low =
    and_from (is_open g s w l) (list_all (is_open g s w) ls)
    (and_from _ _ (lt-ltb l.0 g.locks (low 0 (omega arith))) (ap (λ (ks : List LockId). not (stands_in l ks)) none))
    (open_each g s w ls none (λ i inside. low (suc i) (omega (arith, inside))))

pub may_take : (g : GraphView) (s : StateView) (w : WorkerId) (locks : List LockId) → HasNothing s w → ((i : ℕ) → i < length locks → (get_or locks i no_lock).0 < g.locks) → may_acquire g s w locks ≡ true
may_take g s w locks has low =
    and_from (condition g s w kinds.Acquire) (list_all (is_open g s w) locks)
    (λ k. not (has.blocked k) && not (has.runs k)) (open_each g s w locks has.parked low)

pub within_graph : (maxima asked : List ℕ) (locks : List LockId) (n : ℕ) → n ≡ lock_count maxima → AreServices maxima asked → AreOneOfEach maxima asked locks → (i : ℕ) → i < length locks → (get_or locks i no_lock).0 < n
within_graph maxima asked locks n is are each i inside =
    let low : i < length asked = omega (arith, inside, each.count) in
    let a : IsLockOfService maxima (get_or asked i 0) (get_or locks i no_lock) = each.of_service i low in
    let ends = ends_within maxima (get_or asked i 0) (are.known i 0 low) in
    omega (arith, a.1, ends, is)

pub free_each : {maxima : List ℕ} {s : StateView} {asked : List ℕ} {locks : List LockId} → AreLowestFree maxima s asked locks → (i : ℕ) → i < length locks → owner_of s (get_or locks i no_lock) ≡ None
free_each chosen i inside = (chosen.lowest i (omega (arith, inside, chosen.count))).free

-- where they can't be taken, as many leases as may be are out
pub short_of_leases : {maxima : List ℕ} {s : StateView} {asked : List ℕ} {locks : List LockId} (w : WorkerId) → s.all ≡ None → HasNothing s w → AreLowestFree maxima s asked locks → can_take_all s w locks ≡ false
    → s.max_leases ≤ leases_out s
short_of_leases {s = s} {locks = locks} w none has chosen short =
    let lease : can_lease s w ≡ false = sym (can_take_free s w locks none (free_each chosen)) ∙ short in
    ltb-false (leases_out s) s.max_leases (sym (ap (λ b. b || nat_lt (leases_out s) s.max_leases) has.lease) ∙ lease)
