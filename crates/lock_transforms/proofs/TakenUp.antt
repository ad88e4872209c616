-- Parked locks taken again.
use Rattle.std.proofs.Common.{◌≡◌, ℕ, ◌<◌, ◌≤◌, ◌+◌, ◌*◌, ◌-◌, length, take, drop, get_or, reverse, List, [], ◌∷◌, ◌++◌, Bool, true, false, eqb, cond, refl, sym, ◌∙◌, ap, subst, arith}
use Rattle.std.proofs.lemmas.List.{get_or-reverse, get_or-take, length-append, length-reverse, length-take-le, take_all, take-append-drop, take_more, take-take}
use Rattle.std.proofs.lemmas.List.Folds.{list_any_at}
use Rattle.std.proofs.lemmas.Bool.{and_parts, eq-eqb}
use Rattle.resource_lock.proofs.lemmas.Lists.{length-le_from_once}
use Rattle.resource_lock.proofs.lemmas.Undo.{holding_now}
use Rattle.resource_lock.proofs.lemmas.Runs.{worker_along, same_shape-make}
use Rattle.resource_lock.specs.StateView.{StateView, Holding, holding_of, stands_in, IsLockOf, IsWorkerOf}
use Rattle.resource_lock.specs.Good.{Good}
use Rattle.resource_lock.specs.GraphView.{GraphView}
use Rattle.resource_lock.specs.Shape.{BelongsTo}
use Rattle.resource_lock.specs.Change.{make, make_all, without_last, holding_after}
use Rattle.resource_lock.specs.declared.ids.LockId.{LockId}
use Rattle.resource_lock.specs.declared.ids.WorkerId.{WorkerId}
use Rattle.resource_lock.specs.declared.changes.Change.{Change}
use Rattle.resource_lock.specs.declared.changes.Change.TheVariants.{Lock, Take, Unpark, Leave}
use Rattle.lock_transforms.specs.TentativeView.{TentativeView, IsSoundTentative}
use Rattle.lock_transforms.specs.Making.{Makes}
use Rattle.lock_transforms.specs.Table.{taken_again, taken_up}
use Rattle.lock_transforms.specs.Taking.{all_taken}
use Rattle.lock_transforms.proofs.Makings.{makes_then, makes_stopped, same_shape-makes}

-- all but the last n of the parked locks
abbrev pub holding_less : ℕ → Holding → Holding
holding_less n h = record h { parked = take (length h.parked - n) h.parked }

take_less : (ls : List LockId) (n : ℕ) → take (length (without_last ls) - n) (without_last ls) ≡ take (length ls - (n + 1)) ls
take_less ls n =
    let long : length (without_last ls) ≡ length ls - 1 = length-take-le (length ls - 1) ls (omega arith) in
    let places : length (without_last ls) - n ≡ length ls - (n + 1) = omega arith in
    ap (λ k. take k (without_last ls)) places ∙ take-take (length ls - (n + 1)) (length ls - 1) ls (omega arith)

-- what a worker has after that many were taken again
holding_after_all : (s : StateView) (w : WorkerId) (ls : List LockId) → IsWorkerOf s w → holding_of (make_all s w (taken_again ls)) w ≡ holding_less (length ls) (holding_of s w)
holding_after_all s w [] worker = ap (λ (ps : List LockId). record (holding_of s w) { parked = ps }) (sym (take_all (length (holding_of s w).parked - 0) (holding_of s w).parked (omega arith)))
holding_after_all s w (l ∷ ls) worker =
    let next : StateView = make (make s w (Unpark l)) w (Lock l) in
    let there : IsWorkerOf (make s w (Unpark l)) w = worker_along s (make s w (Unpark l)) w (same_shape-make s w (Unpark l)) worker in
    holding_after_all (make (make s w (Unpark l)) w (Lock l)) w ls there
    ∙ ap (holding_less (length ls)) (holding_now s w (holding_after (holding_of s w) (Unpark l)) worker)
    ∙ ap (λ (ps : List LockId). record (holding_of s w) { parked = ps }) (take_less (holding_of s w).parked (length ls) ∙ ap (λ k. take (length (holding_of s w).parked - k) (holding_of s w).parked) (omega arith))

taken_again-append : (ls ks : List LockId) → taken_again (ls ++ ks) ≡ taken_again ls ++ taken_again ks
taken_again-append [] ks = refl
taken_again-append (l ∷ ls) ks = ap (λ cs. Unpark l ∷ Lock l ∷ cs) (taken_again-append ls ks)

pub length-taken_again : (ls : List LockId) → length (taken_again ls) ≡ length ls + length ls
length-taken_again [] = refl
length-taken_again (l ∷ ls) = omega (arith, length-taken_again ls)

-- the locks that a worker has parked, the last first
abbrev pub last_first : TentativeView → List LockId
last_first t = reverse (holding_of t.state t.worker).parked

-- what the worker has after the first i of them
pub holding_left : {a b : TentativeView} (i : ℕ) → IsWorkerOf a.state a.worker → i ≤ length (holding_of a.state a.worker).parked → Makes a b (taken_again (take i (last_first a))) true
    → holding_of b.state b.worker ≡ holding_less i (holding_of a.state a.worker)
holding_left {a} {b} i worker within front =
    ap (λ (w : WorkerId). holding_of b.state w) front.worker
    ∙ ap (λ (s : StateView). holding_of s a.worker) (front.whole refl).state
    ∙ holding_after_all a.state a.worker (take i (last_first a)) worker
    ∙ ap (λ k. holding_less k (holding_of a.state a.worker)) (length-take-le i (last_first a) (omega (arith, length-reverse (holding_of a.state a.worker).parked)))

pub length-left : {a b : TentativeView} (i : ℕ) → IsWorkerOf a.state a.worker → i ≤ length (holding_of a.state a.worker).parked → Makes a b (taken_again (take i (last_first a))) true
    → length (holding_of b.state b.worker).parked ≡ length (holding_of a.state a.worker).parked - i
length-left {a} i worker within front = ap (λ (h : Holding). length h.parked) (holding_left i worker within front)
    ∙ length-take-le (length (holding_of a.state a.worker).parked - i) (holding_of a.state a.worker).parked (omega arith)

-- the last of those that are left is the next
next_is : {a b : TentativeView} (i : ℕ) (d : LockId) → IsWorkerOf a.state a.worker → i < length (holding_of a.state a.worker).parked → Makes a b (taken_again (take i (last_first a))) true
    → get_or (holding_of b.state b.worker).parked (length (holding_of a.state a.worker).parked - 1 - i) d ≡ get_or (last_first a) i d
next_is {a} {b} i d worker within front =
    let ps : List LockId = (holding_of a.state a.worker).parked in
    ap (λ (h : Holding). get_or h.parked (length (holding_of a.state a.worker).parked - 1 - i) d) (holding_left i worker (omega arith) front)
    ∙ get_or-take (length (holding_of a.state a.worker).parked - i) (holding_of a.state a.worker).parked (length (holding_of a.state a.worker).parked - 1 - i) d (omega arith)
    ∙ sym (get_or-reverse (holding_of a.state a.worker).parked i d within)

-- parked locks as they were read
pub parked_read : {ps : List LockId} {s t : StateView} {v w : WorkerId} → ps ≡ (holding_of s v).parked → s ≡ t → v ≡ w → ps ≡ (holding_of t w).parked
parked_read {s = s} {t} {v} {w} is state worker = is ∙ ap (λ (x : StateView). (holding_of x v).parked) state ∙ ap (λ (x : WorkerId). (holding_of t x).parked) worker

pub there_is : {a b : TentativeView} {ps qs : List LockId} (i : ℕ) → IsWorkerOf a.state a.worker → ps ≡ (holding_of a.state a.worker).parked → qs ≡ (holding_of b.state b.worker).parked → i < length ps
    → Makes a b (taken_again (take i (last_first a))) true → length ps - 1 - i < length qs
there_is i worker before now within front = omega (arith, ap length before, ap length now, length-left i worker (omega (arith, ap length before)) front)

pub next_parked : {a b c : TentativeView} {ps qs : List LockId} {all : Bool} (i : ℕ) (d : LockId) → IsWorkerOf a.state a.worker → ps ≡ (holding_of a.state a.worker).parked → qs ≡ (holding_of b.state b.worker).parked → i < length ps
    → Makes a b (taken_again (take i (last_first a))) true → Makes b c (Unpark (get_or qs (length ps - 1 - i) d) ∷ Lock (get_or qs (length ps - 1 - i) d) ∷ []) all
    → Makes a c (taken_again (take (i + 1) (last_first a))) all
next_parked {a} {b} {c} {ps} {qs} {all} i d worker before now within front next =
    let inside : i < length (holding_of a.state a.worker).parked = omega (arith, ap length before) in
    let is : get_or qs (length ps - 1 - i) d ≡ get_or (last_first a) i d =
    ap (λ (ls : List LockId). get_or ls (length ps - 1 - i) d) now
    ∙ ap (λ (ls : List LockId). get_or (holding_of b.state b.worker).parked (length ls - 1 - i) d) before
    ∙ next_is i d worker inside front in
    let split : taken_again (take (i + 1) (last_first a)) ≡ taken_again (take i (last_first a)) ++ Unpark (get_or qs (length ps - 1 - i) d) ∷ Lock (get_or qs (length ps - 1 - i) d) ∷ [] =
    ap taken_again (take_more (last_first a) i d (omega (arith, length-reverse (holding_of a.state a.worker).parked)))
    ∙ taken_again-append (take i (last_first a)) (get_or (last_first a) i d ∷ [])
    ∙ ap (λ (k : LockId). taken_again (take i (last_first a)) ++ Unpark k ∷ Lock k ∷ []) (sym is) in
    subst (λ (cs : List Change). Makes a c cs all) (sym split) (makes_then front next)

-- a parked lock is one of the state's
pub parked_named : (s : StateView) (w : WorkerId) (qs : List LockId) (n : ℕ) (d : LockId) → Good s → qs ≡ (holding_of s w).parked → n < length qs → IsLockOf s (get_or qs n d)
parked_named s w qs n d good now within = good.parked_locks w (get_or qs n d)
    (ap (stands_in (get_or qs n d)) (sym now) ∙ list_any_at (λ k. eqb k.0 (get_or qs n d).0) qs n d within (eq-eqb (get_or qs n d).0 (get_or qs n d).0 refl))

pub stopped_parked : {a b : TentativeView} (n : ℕ) → Makes a b (taken_again (take n (last_first a))) false → Makes a b (taken_again (last_first a)) false
stopped_parked {a} {b} n front =
    let split : taken_again (last_first a) ≡ taken_again (take n (last_first a)) ++ taken_again (drop n (last_first a)) =
    ap taken_again (sym (take-append-drop n (last_first a))) ∙ taken_again-append (take n (last_first a)) (drop n (last_first a)) in
    subst (λ (cs : List Change). Makes a b cs false) (sym split) (makes_stopped (taken_again (drop n (last_first a))) front)

pub all_parked : {a b : TentativeView} (n : ℕ) → length (holding_of a.state a.worker).parked ≤ n → Makes a b (taken_again (take n (last_first a))) true → Makes a b (taken_again (last_first a)) true
all_parked {a} {b} n past front = subst (λ (ls : List LockId). Makes a b (taken_again ls) true) (take_all n (last_first a) (omega (arith, length-reverse (holding_of a.state a.worker).parked))) front

-- there is room for what takes one more
pub room_parked : {a b : TentativeView} (i : ℕ) → i < length (holding_of a.state a.worker).parked → Makes a b (taken_again (take i (last_first a))) true → length (taken_again (last_first a)) ≤ a.room → 2 ≤ b.room
room_parked {a} {b} i within front room = omega (arith, front.room, front.few, length-taken_again (take i (last_first a)), length-taken_again (last_first a), length-reverse (holding_of a.state a.worker).parked, length-take-le i (last_first a) (omega (arith, length-reverse (holding_of a.state a.worker).parked)))

-- a worker has parked at most as many locks as the graph has
pub few_parked : {g : GraphView} {s : StateView} → BelongsTo g s → Good s → (w : WorkerId) → length (holding_of s w).parked ≤ g.locks
few_parked {s = s} belongs good w = omega (arith, length-le_from_once (length s.owners) (holding_of s w).parked (good.parked_once w) (good.parked_locks w), belongs.locks)

pub length-taken_up : (s : StateView) (w : WorkerId) → length (taken_up s w) ≡ 2 + 2 * length (holding_of s w).parked
length-taken_up s w =
    let again : List LockId = reverse (holding_of s w).parked in
    omega (arith, length-taken_again again, length-reverse (holding_of s w).parked, length-append (taken_again again) (Take ∷ []))

is_worker : {t : TentativeView} → IsSoundTentative t → IsWorkerOf t.state t.worker
is_worker sound = omega (arith, sound.worker, sound.belongs.workers)

-- what the worker has, once it left
after_leave : {a b : TentativeView} → IsSoundTentative a → Makes a b (Leave ∷ []) true → holding_of b.state b.worker ≡ holding_after (holding_of a.state a.worker) Leave
after_leave {a} {b} sound left =
    ap (λ (w : WorkerId). holding_of b.state w) left.worker
    ∙ ap (λ (s : StateView). holding_of s a.worker) (left.whole refl).state
    ∙ holding_now a.state a.worker (holding_after (holding_of a.state a.worker) Leave) (is_worker sound)

same_parked : {a b : TentativeView} → IsSoundTentative a → Makes a b (Leave ∷ []) true → last_first b ≡ last_first a
same_parked sound left = ap (λ (h : Holding). reverse h.parked) (after_leave sound left)

pub room_after_leave : {a b : TentativeView} → IsSoundTentative a → 2 + 2 * length (holding_of a.state a.worker).parked ≤ a.room → Makes a b (Leave ∷ []) true → length (taken_again (last_first b)) ≤ b.room
room_after_leave {a} {b} sound room left = omega (arith, length-taken_again (last_first b), ap length (same_parked sound left), length-reverse (holding_of a.state a.worker).parked, left.room, left.few)

-- what left, and took the parked locks again
pub parked_too : {a b c : TentativeView} {all : Bool} → IsSoundTentative a → Makes a b (Leave ∷ []) true → Makes b c (taken_again (last_first b)) all → Makes a c (Leave ∷ taken_again (last_first a)) all
parked_too {b = b} {c} {all} sound left taken = makes_then left (subst (λ (ls : List LockId). Makes b c (taken_again ls) all) (same_parked sound left) taken)

pub room_for_lease : {a c : TentativeView} → IsSoundTentative a → 2 + 2 * length (holding_of a.state a.worker).parked ≤ a.room → Makes a c (Leave ∷ taken_again (last_first a)) true → 1 ≤ c.room
room_for_lease {a} sound room taken = omega (arith, length-taken_again (last_first a), length-reverse (holding_of a.state a.worker).parked, taken.room, taken.few)

-- it isn't blocked then, and has no lease
pub holding_then : {a b c : TentativeView} → IsSoundTentative a → Makes a b (Leave ∷ []) true → Makes b c (taken_again (last_first b)) true → ((holding_of c.state c.worker).blocked ≡ false) × ((holding_of c.state c.worker).lease ≡ false)
holding_then {a} {b} {c} sound left taken =
    let worker : IsWorkerOf b.state b.worker = subst (IsWorkerOf b.state) (sym left.worker) (worker_along a.state b.state a.worker (same_shape-makes left) (is_worker sound)) in
    let now : holding_of c.state c.worker ≡ holding_less (length (last_first b)) (holding_after (holding_of a.state a.worker) Leave) =
    ap (λ (w : WorkerId). holding_of c.state w) taken.worker
    ∙ ap (λ (s : StateView). holding_of s b.worker) (taken.whole refl).state
    ∙ holding_after_all b.state b.worker (last_first b) worker
    ∙ ap (holding_less (length (last_first b))) (after_leave sound left) in
    let blocked : (holding_of a.state a.worker).blocked ≡ true = (and_parts (holding_of a.state a.worker).blocked true (left.whole refl).possible).0 in
    (ap (λ (h : Holding). h.blocked) now, ap (λ (h : Holding). h.lease) now ∙ sound.good.blocked_no_lease a.worker blocked)

-- and then took a lease
pub lease_too : {a b c d : TentativeView} {all : Bool} → IsSoundTentative a → Makes a b (Leave ∷ []) true → Makes b c (taken_again (last_first b)) true → Makes c d (all_taken c.state c.worker []) all → Makes a d (taken_up a.state a.worker) all
lease_too {c = c} {d} {all} sound left taken leased = makes_then (parked_too sound left taken) (subst (λ has. Makes c d (cond has [] (Take ∷ [])) all) (holding_then sound left taken).1 leased)
