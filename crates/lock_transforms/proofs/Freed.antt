-- The locks that a worker owns, given back one after another.
use Rattle.std.proofs.Common.{◌≡◌, ◌≢◌, ℕ, ◌<◌, ◌≤◌, ◌+◌, ◌*◌, length, take, drop, List, [], ◌∷◌, ◌++◌, map, Bool, true, false, ◌&&◌, get_or, cond, refl, sym, ◌∙◌, ap, subst, arith, Option, None, inl, inr}
use Rattle.std.specs.List.{AllByRecursion, count_by, slice_index_or}
use Rattle.std.proofs.Math.Bool.{and-true}
use Rattle.std.proofs.lemmas.Bool.{and_from, cases_Bool}
use Rattle.std.proofs.lemmas.List.{length-append, length-take-le, map-append, take_all, take_more, take-append-drop, drop_more, length-drop, drop-set-lt, get_or-set_other}
use Rattle.std.proofs.lemmas.List.Sums.{sum_by-cons}
use Rattle.resource_lock.specs.StateView.{StateView, Holding, empty_holding, holding_of, owner_of, is_owner, owns}
use Rattle.resource_lock.specs.Change.{make, make_all, can_all}
use Rattle.resource_lock.specs.GraphView.{GraphView}
use Rattle.resource_lock.proofs.lemmas.Runs.{can_all-append}
use Rattle.resource_lock.specs.declared.ids.LockId.{LockId}
use Rattle.resource_lock.specs.declared.ids.WorkerId.{WorkerId}
use Rattle.resource_lock.specs.declared.changes.Change.{Change}
use Rattle.resource_lock.specs.declared.changes.Change.TheVariants.{Unlock, Give, Enter, Park as ParkLock}
use Rattle.lock_transforms.specs.TentativeView.{TentativeView, noted, without_lease}
use Rattle.lock_transforms.specs.Making.{Makes}
use Rattle.lock_transforms.specs.Table.{condition, is_enabled, owned_from, owned, parked_locks, set_down}
use Rattle.lock_transforms.specs.declared.entries.Kind.TheVariants as kinds
use Rattle.lock_transforms.specs.Freeing.{freed, if_owned}
use Rattle.lock_transforms.proofs.Makings.{makes_none, makes_one, makes_then, makes_stopped}

abbrev pub lock_at : ℕ → LockId
lock_at n = record { 0 = n }

-- the locks that a worker owns below a number
abbrev pub owned_below : StateView → WorkerId → ℕ → List LockId
owned_below s w n = owned_from 0 (take n s.owners) w

owned_from-append : (n : ℕ) (os ps : List (Option WorkerId)) (w : WorkerId) → owned_from n (os ++ ps) w ≡ owned_from n os w ++ owned_from (n + length os) ps w
owned_from-append n [] ps w = ap (λ k. owned_from k ps w) (omega arith)
owned_from-append n (o ∷ os) ps w =
    let later : n + 1 + length os ≡ n + length (o ∷ os) = omega arith in
    let rest : owned_from (n + 1) (os ++ ps) w ≡ owned_from (n + 1) os w ++ owned_from (n + length (o ∷ os)) ps w = owned_from-append (n + 1) os ps w ∙ ap (λ k. owned_from (n + 1) os w ++ owned_from k ps w) later in
    elim (is_owner o w) as (λ b. cond b (lock_at n ∷ owned_from (n + 1) (os ++ ps) w) (owned_from (n + 1) (os ++ ps) w) ≡ cond b (lock_at n ∷ owned_from (n + 1) os w) (owned_from (n + 1) os w) ++ owned_from (n + length (o ∷ os)) ps w) [
      | true ↦ ap (λ ls. lock_at n ∷ ls) rest
      | false ↦ rest
    ]

owned_next : (s : StateView) (w : WorkerId) (n : ℕ) → n < length s.owners → owned_below s w (n + 1) ≡ owned_below s w n ++ if_owned s w (lock_at n)
owned_next s w n within =
    ap (λ os. owned_from 0 os w) (take_more s.owners n None within)
    ∙ owned_from-append 0 (take n s.owners) (owner_of s (lock_at n) ∷ []) w
    ∙ ap (λ k. owned_below s w n ++ owned_from k (owner_of s (lock_at n) ∷ []) w) (omega (arith, length-take-le n s.owners (omega arith)))

-- the locks below a number, and the others
owned_split : (s : StateView) (w : WorkerId) (n : ℕ) → owned s w ≡ owned_below s w n ++ owned_from (0 + length (take n s.owners)) (drop n s.owners) w
owned_split s w n = ap (λ os. owned_from 0 os w) (sym (take-append-drop n s.owners)) ∙ owned_from-append 0 (take n s.owners) (drop n s.owners) w

few_owned_from : (n : ℕ) (os : List (Option WorkerId)) (w : WorkerId) → length (owned_from n os w) ≤ length os
few_owned_from n [] w = omega arith
few_owned_from n (o ∷ os) w = elim (is_owner o w) as (λ b. length (cond b (lock_at n ∷ owned_from (n + 1) os w) (owned_from (n + 1) os w)) ≤ length (o ∷ os)) [
  | true ↦ omega (arith, few_owned_from (n + 1) os w)
  | false ↦ omega (arith, few_owned_from (n + 1) os w)
]

-- they are those that are counted
length-owned_from : (n : ℕ) (os : List (Option WorkerId)) (w : WorkerId) → length (owned_from n os w) ≡ count_by (λ o. is_owner o w) os
length-owned_from n [] w = refl
length-owned_from n (o ∷ os) w =
    (elim (is_owner o w) as (λ b. length (cond b (lock_at n ∷ owned_from (n + 1) os w) (owned_from (n + 1) os w)) ≡ cond b 1 0 + count_by (λ o. is_owner o w) os) [
      | true ↦ omega (arith, length-owned_from (n + 1) os w)
      | false ↦ omega (arith, length-owned_from (n + 1) os w)
    ]) ∙ sym (sum_by-cons (λ o. cond (is_owner o w) 1 0) o os)

pub length-owned : (s : StateView) (w : WorkerId) → length (owned s w) ≡ count_by (λ o. is_owner o w) s.owners
length-owned s w = length-owned_from 0 s.owners w

pub few_owned : (s : StateView) (w : WorkerId) → length (owned s w) ≤ length s.owners
few_owned s w = few_owned_from 0 s.owners w

parked_locks-append : (ls ks : List LockId) → parked_locks (ls ++ ks) ≡ parked_locks ls ++ parked_locks ks
parked_locks-append [] ks = refl
parked_locks-append (l ∷ ls) ks = ap (λ cs. Unlock l ∷ ParkLock l ∷ cs) (parked_locks-append ls ks)

freed-append : (parks : Bool) (ls ks : List LockId) → freed parks (ls ++ ks) ≡ freed parks ls ++ freed parks ks
freed-append true ls ks = parked_locks-append ls ks
freed-append false ls ks = map-append Unlock ls ks

pub length-parked_locks : (ls : List LockId) → length (parked_locks ls) ≡ length ls + length ls
length-parked_locks [] = refl
length-parked_locks (l ∷ ls) = omega (arith, length-parked_locks ls)

-- a change that leaves the owner of the lock of a number
abbrev Spares : ℕ → Change → Type 0
Spares n (Unlock l) = n ≢ l.0
Spares n (ParkLock l) = Unit {0}
Spares n _ = ⊥

owner_stays_one : (n : ℕ) (s : StateView) (w : WorkerId) (c : Change) → Spares n c → owner_of (make s w c) (lock_at n) ≡ owner_of s (lock_at n)
owner_stays_one n s w (Unlock l) other = get_or-set_other s.owners l.0 n None None other
owner_stays_one n s w (ParkLock l) other = refl
owner_stays_one n s w _ other = absurd other

owner_stays : (n : ℕ) (s : StateView) (w : WorkerId) (cs : List Change) → AllByRecursion (Spares n) cs → owner_of (make_all s w cs) (lock_at n) ≡ owner_of s (lock_at n)
owner_stays n s w [] others = refl
owner_stays n s w (c ∷ cs) others = owner_stays n (make s w c) w cs others.1 ∙ owner_stays_one n s w c others.0

spares_unlocked : (n k : ℕ) (os : List (Option WorkerId)) (w : WorkerId) → k + length os ≤ n → AllByRecursion (Spares n) (map Unlock (owned_from k os w))
spares_unlocked n k [] w below = tt
spares_unlocked n k (o ∷ os) w below = elim (is_owner o w) as (λ b. AllByRecursion (Spares n) (map Unlock (cond b (lock_at k ∷ owned_from (k + 1) os w) (owned_from (k + 1) os w)))) [
  | true ↦ ((λ e. absurd (omega arith)), spares_unlocked n (k + 1) os w (omega arith))
  | false ↦ spares_unlocked n (k + 1) os w (omega arith)
]

spares_parked : (n k : ℕ) (os : List (Option WorkerId)) (w : WorkerId) → k + length os ≤ n → AllByRecursion (Spares n) (parked_locks (owned_from k os w))
spares_parked n k [] w below = tt
spares_parked n k (o ∷ os) w below = elim (is_owner o w) as (λ b. AllByRecursion (Spares n) (parked_locks (cond b (lock_at k ∷ owned_from (k + 1) os w) (owned_from (k + 1) os w)))) [
  | true ↦ ((λ e. absurd (omega arith)), (tt, spares_parked n (k + 1) os w (omega arith)))
  | false ↦ spares_parked n (k + 1) os w (omega arith)
]

spares_freed : (parks : Bool) (n : ℕ) (os : List (Option WorkerId)) (w : WorkerId) → length os ≤ n → AllByRecursion (Spares n) (freed parks (owned_from 0 os w))
spares_freed true n os w below = spares_parked n 0 os w (omega arith)
spares_freed false n os w below = spares_unlocked n 0 os w (omega arith)

-- giving back the locks below one leaves that one
pub still_owned : {a b : TentativeView} (parks : Bool) (n : ℕ) → n < length a.state.owners → Makes a b (freed parks (owned_below a.state a.worker n)) true → if_owned b.state b.worker (lock_at n) ≡ if_owned a.state a.worker (lock_at n)
still_owned {a} {b} parks n within front =
    ap (λ (v : WorkerId). if_owned b.state v (lock_at n)) front.worker
    ∙ ap (λ (o : Option WorkerId). cond (is_owner o a.worker) (lock_at n ∷ []) []) (ap (λ (x : StateView). owner_of x (lock_at n)) (front.whole refl).state
    ∙ owner_stays n a.state a.worker (freed parks (owned_below a.state a.worker n)) (spares_freed parks n (take n a.state.owners) a.worker (omega (arith, length-take-le n a.state.owners (omega arith)))))

pub next_freed : {a b c : TentativeView} {all : Bool} (parks : Bool) (n : ℕ) → n < length a.state.owners → Makes a b (freed parks (owned_below a.state a.worker n)) true
    → Makes b c (freed parks (if_owned b.state b.worker (lock_at n))) all → Makes a c (freed parks (owned_below a.state a.worker (n + 1))) all
next_freed {a} {b} {c} {all} parks n within front next =
    let split : freed parks (owned_below a.state a.worker (n + 1)) ≡ freed parks (owned_below a.state a.worker n) ++ freed parks (if_owned b.state b.worker (lock_at n)) =
    ap (freed parks) (owned_next a.state a.worker n within)
    ∙ freed-append parks (owned_below a.state a.worker n) (if_owned a.state a.worker (lock_at n))
    ∙ ap (λ ls. freed parks (owned_below a.state a.worker n) ++ freed parks ls) (sym (still_owned parks n within front)) in
    subst (λ (cs : List Change). Makes a c cs all) (sym split) (makes_then front next)

pub stopped_freed : {a b : TentativeView} (parks : Bool) (n : ℕ) → Makes a b (freed parks (owned_below a.state a.worker n)) false → Makes a b (freed parks (owned a.state a.worker)) false
stopped_freed {a} {b} parks n front =
    let rest : List LockId = owned_from (0 + length (take n a.state.owners)) (drop n a.state.owners) a.worker in
    let split : freed parks (owned a.state a.worker) ≡ freed parks (owned_below a.state a.worker n) ++ freed parks (owned_from (0 + length (take n a.state.owners)) (drop n a.state.owners) a.worker) =
    ap (freed parks) (owned_split a.state a.worker n) ∙ freed-append parks (owned_below a.state a.worker n) (owned_from (0 + length (take n a.state.owners)) (drop n a.state.owners) a.worker) in
    subst (λ (cs : List Change). Makes a b cs false) (sym split) (makes_stopped (freed parks (owned_from (0 + length (take n a.state.owners)) (drop n a.state.owners) a.worker)) front)

pub all_freed : {a b : TentativeView} (parks : Bool) (n : ℕ) → length a.state.owners ≤ n → Makes a b (freed parks (owned_below a.state a.worker n)) true → Makes a b (freed parks (owned a.state a.worker)) true
all_freed {a} {b} parks n past front = subst (λ (os : List (Option WorkerId)). Makes a b (freed parks (owned_from 0 os a.worker)) true) (take_all n a.state.owners past) front

-- there is room for one more lock
pub room_freed : {a b : TentativeView} (parks : Bool) (n : ℕ) → n < length a.state.owners → Makes a b (freed parks (owned_below a.state a.worker n)) true → length (freed parks (owned a.state a.worker)) ≤ a.room
    → length (freed parks (if_owned b.state b.worker (lock_at n))) ≤ b.room
room_freed {a} {b} parks n within front room =
    let rest : List LockId = owned_from (0 + length (take (n + 1) a.state.owners)) (drop (n + 1) a.state.owners) a.worker in
    let first : length (freed parks (owned_below a.state a.worker (n + 1))) ≡ length (freed parks (owned_below a.state a.worker n)) + length (freed parks (if_owned b.state b.worker (lock_at n))) =
    ap (λ ls. length (freed parks ls)) (owned_next a.state a.worker n within)
    ∙ ap length (freed-append parks (owned_below a.state a.worker n) (if_owned a.state a.worker (lock_at n)))
    ∙ length-append (freed parks (owned_below a.state a.worker n)) (freed parks (if_owned a.state a.worker (lock_at n)))
    ∙ ap (λ ls. length (freed parks (owned_below a.state a.worker n)) + length (freed parks ls)) (sym (still_owned parks n within front)) in
    let all : length (freed parks (owned a.state a.worker)) ≡ length (freed parks (owned_below a.state a.worker (n + 1))) + length (freed parks rest) =
    ap (λ ls. length (freed parks ls)) (owned_split a.state a.worker (n + 1))
    ∙ ap length (freed-append parks (owned_below a.state a.worker (n + 1)) rest)
    ∙ length-append (freed parks (owned_below a.state a.worker (n + 1))) (freed parks rest) in
    omega (arith, front.room, front.few)

-- ---- locks that are named, given back one after another

named_next : (parks : Bool) (ls : List LockId) (i : ℕ) (d : LockId) → i < length ls → freed parks (take (i + 1) ls) ≡ freed parks (take i ls) ++ freed parks (get_or ls i d ∷ [])
named_next parks ls i d within = ap (freed parks) (take_more ls i d within) ∙ freed-append parks (take i ls) (get_or ls i d ∷ [])

named_split : (parks : Bool) (ls : List LockId) (i : ℕ) → freed parks ls ≡ freed parks (take i ls) ++ freed parks (drop i ls)
named_split parks ls i = ap (freed parks) (sym (take-append-drop i ls)) ∙ freed-append parks (take i ls) (drop i ls)

pub next_named : {a b c : TentativeView} {all : Bool} (parks : Bool) (ls : List LockId) (i : ℕ) (d : LockId) → i < length ls → Makes a b (freed parks (take i ls)) true
    → Makes b c (freed parks (get_or ls i d ∷ [])) all → Makes a c (freed parks (take (i + 1) ls)) all
next_named {a} {b} {c} {all} parks ls i d within front next = subst (λ (cs : List Change). Makes a c cs all) (sym (named_next parks ls i d within)) (makes_then front next)

pub stopped_named : {a b : TentativeView} (parks : Bool) (ls : List LockId) (i : ℕ) → Makes a b (freed parks (take i ls)) false → Makes a b (freed parks ls) false
stopped_named {a} {b} parks ls i front = subst (λ (cs : List Change). Makes a b cs false) (sym (named_split parks ls i)) (makes_stopped (freed parks (drop i ls)) front)

-- there is room for one more of them
pub room_named : {a b : TentativeView} (parks : Bool) (ls : List LockId) (i : ℕ) (d : LockId) → i < length ls → Makes a b (freed parks (take i ls)) true → length (freed parks ls) ≤ a.room
    → length (freed parks (get_or ls i d ∷ [])) ≤ b.room
room_named {a} {b} parks ls i d within front room =
    let first : length (freed parks (take (i + 1) ls)) ≡ length (freed parks (take i ls)) + length (freed parks (get_or ls i d ∷ [])) =
    ap length (named_next parks ls i d within) ∙ length-append (freed parks (take i ls)) (freed parks (get_or ls i d ∷ [])) in
    let all : length (freed parks ls) ≡ length (freed parks (take (i + 1) ls)) + length (freed parks (drop (i + 1) ls)) =
    ap length (named_split parks ls (i + 1)) ∙ length-append (freed parks (take (i + 1) ls)) (freed parks (drop (i + 1) ls)) in
    omega (arith, front.room, front.few)

-- giving back the lease, where there is one
abbrev pub lease_given : StateView → WorkerId → List Change
lease_given s w = cond (holding_of s w).lease (Give ∷ []) []

pub makes_give : (t : TentativeView) → 0 < t.room → Makes t (without_lease t) (lease_given t.state t.worker) true
makes_give t room = elim (cases_Bool (holding_of t.state t.worker).lease) [
  | inl had ↦ subst (λ b. Makes t (cond b (noted t Give) t) (cond b (Give ∷ []) []) true) (sym had) (makes_one t Give tt had room)
  | inr none ↦ subst (λ b. Makes t (cond b (noted t Give) t) (cond b (Give ∷ []) []) true) (sym none) (makes_none t)
]

holdings_unlocked : (s : StateView) (w : WorkerId) (ls : List LockId) → (make_all s w (map Unlock ls)).holdings ≡ s.holdings
holdings_unlocked s w [] = refl
holdings_unlocked s w (l ∷ ls) = holdings_unlocked (make s w (Unlock l)) w ls

-- all locks and then the lease
pub then_give : {a b c : TentativeView} → Makes a b (map Unlock (owned a.state a.worker)) true → 0 < b.room → c ≡ without_lease b → Makes a c (map Unlock (owned a.state a.worker) ++ lease_given a.state a.worker) true
then_give {a} {b} {c} front room is =
    let holding : holding_of b.state b.worker ≡ holding_of a.state a.worker =
    ap (λ (w : WorkerId). holding_of b.state w) front.worker
    ∙ ap (λ (s : StateView). holding_of s a.worker) (front.whole refl).state
    ∙ ap (λ (hs : List Holding). slice_index_or hs a.worker.0 empty_holding) (holdings_unlocked a.state a.worker (owned a.state a.worker)) in
    makes_then front (subst (λ (h : Holding). Makes b c (cond h.lease (Give ∷ []) []) true) holding (subst (λ (x : TentativeView). Makes b x (lease_given b.state b.worker) true) (sym is) (makes_give b room)))

pub few_given : (s : StateView) (w : WorkerId) → length (lease_given s w) ≤ 1
few_given s w = elim (holding_of s w).lease as (λ b. length (cond b (Give ∷ []) []) ≤ 1) [ true ↦ omega arith | false ↦ omega arith ]

-- A worker can give back all that it owns.
pub rest_of : (xs os : List (Option WorkerId)) (o : Option WorkerId) (k : ℕ) → drop k xs ≡ o ∷ os → (drop (k + 1) xs ≡ os) × (get_or xs k None ≡ o)
rest_of xs os o k is =
    let within : k < length xs = omega (arith, ap length is, length-drop k xs) in
    let both : get_or xs k None ∷ drop (k + 1) xs ≡ o ∷ os = sym (drop_more xs k None within) ∙ is in
    (ap (drop 1) both, ap (λ ys. get_or ys 0 None) both)

can_unlock : (k : ℕ) (os : List (Option WorkerId)) (s : StateView) (w : WorkerId) → drop k s.owners ≡ os → can_all s w (map Unlock (owned_from k os w)) ≡ true
can_unlock k [] s w is = refl
can_unlock k (o ∷ os) s w is =
    let rest : (drop (k + 1) s.owners ≡ os) × (get_or s.owners k None ≡ o) = rest_of s.owners os o k is in
    elim (cases_Bool (is_owner o w)) [
      | inl own ↦ subst (λ b. can_all s w (map Unlock (cond b (lock_at k ∷ owned_from (k + 1) os w) (owned_from (k + 1) os w))) ≡ true) (sym own)
          (and_from (owns s w (lock_at k)) (can_all (make s w (Unlock (lock_at k))) w (map Unlock (owned_from (k + 1) os w))) (ap (λ p. is_owner p w) rest.1 ∙ own)
          (can_unlock (k + 1) os (make s w (Unlock (lock_at k))) w (drop-set-lt (k + 1) s.owners k None (omega arith) ∙ rest.0)))
      | inr other ↦ subst (λ b. can_all s w (map Unlock (cond b (lock_at k ∷ owned_from (k + 1) os w) (owned_from (k + 1) os w))) ≡ true) (sym other) (can_unlock (k + 1) os s w rest.0)
    ]

can_give : (s t : StateView) (w : WorkerId) → t.holdings ≡ s.holdings → can_all t w (lease_given s w) ≡ true
can_give s t w same = elim (cases_Bool (holding_of s w).lease) [
  | inl had ↦ subst (λ b. can_all t w (cond b (Give ∷ []) []) ≡ true) (sym had) (and_from (holding_of t w).lease true (ap (λ (hs : List Holding). (slice_index_or hs w.0 empty_holding).lease) same ∙ had) refl)
  | inr none ↦ subst (λ b. can_all t w (cond b (Give ∷ []) []) ≡ true) (sym none) refl
]

can_hand_back : (s : StateView) (w : WorkerId) → can_all s w (map Unlock (owned s w) ++ lease_given s w) ≡ true
can_hand_back s w = can_all-append s w (map Unlock (owned s w)) (lease_given s w)
    ∙ and_from (can_all s w (map Unlock (owned s w))) (can_all (make_all s w (map Unlock (owned s w))) w (lease_given s w)) (can_unlock 0 s.owners s w refl)
    (can_give s (make_all s w (map Unlock (owned s w))) w (holdings_unlocked s w (owned s w)))

-- so only the condition can keep it from that
pub not_to_hand_back : (g : GraphView) (s : StateView) (w : WorkerId) → is_enabled g s w kinds.HandBack ≡ false → condition g s w kinds.HandBack ≡ false
not_to_hand_back g s w is = sym (and-true (condition g s w kinds.HandBack)) ∙ ap (λ b. condition g s w kinds.HandBack && b) (sym (can_hand_back s w)) ∙ is

-- all locks given back and parked, and what comes before and behind
pub length-set_down : (s : StateView) (w : WorkerId) → length (set_down s w) ≡ 2 + 2 * length (owned s w)
length-set_down s w = omega (arith, length-parked_locks (owned s w), length-append (parked_locks (owned s w)) (Enter ∷ []))

-- the same locks, once the lease was given back
pub owned_without : {a b : TentativeView} → Makes a b (Give ∷ []) true → owned b.state b.worker ≡ owned a.state a.worker
owned_without {a} {b} made = ap (λ (w : WorkerId). owned b.state w) made.worker ∙ ap (λ (s : StateView). owned s a.worker) (made.whole refl).state
