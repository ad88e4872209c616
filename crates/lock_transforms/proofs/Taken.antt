-- Locks and a lease taken one after another.
use Rattle.std.proofs.Common.{◌≡◌, ℕ, ◌<◌, ◌≤◌, ◌+◌, ◌-◌, length, take, drop, get_or, List, [], ◌∷◌, ◌++◌, map, Bool, true, false, not, cond, ◌&&◌, ◌||◌, ◌⊎◌, leb, ltb, refl, sym, ◌∙◌, ap, subst, arith, Option, None, Some, inl, inr}
use Rattle.std.specs.List.{All, AllByRecursion, list_all, filter, slice_index_or, count_by}
use Rattle.std.proofs.lemmas.Bool.{and_parts, and_from, both_ways, not_from_false, eq-eqb, leb-true, le-leb, lt-ltb, ltb-true, false_from_ne_true, false≢true, cases_Bool}
use Rattle.std.proofs.lemmas.List.{append_assoc, append-nil, length-append, length-take, take_all, take_more, take-append-drop, get_or-set_same, get_or-set_other}
use Rattle.std.proofs.Math.Bool.{and-true}
use Rattle.resource_lock.proofs.lemmas.Lists.{get_or-set_cases}
use Rattle.resource_lock.proofs.lemmas.Alone.{alone_locked, kept_same, own_not_kept}
use Rattle.resource_lock.proofs.lemmas.Undo.{none_from}
use Rattle.resource_lock.proofs.lemmas.Runs.{same_shape-make_all, make_all-append, can_all-append}
use Rattle.resource_lock.specs.StateView.{StateView, Holding, empty_holding, holding_of, owner_of, is_owner, kept_from, owns, stands_in, has_parked, leases_out, IsLockOf}
use Rattle.resource_lock.specs.Change.{can, make, make_all, can_all}
use Rattle.resource_lock.specs.Good.{AllAlone}
use Rattle.resource_lock.specs.Shape.{SameShape}
use Rattle.std.proofs.lemmas.List.Elements.{All-from_recursion, recursion_from_All}
use Rattle.resource_lock.specs.Trying.{can_own, can_lease}
use Rattle.resource_lock.specs.GraphView.{GraphView}
use Rattle.resource_lock.specs.declared.ids.LockId.{LockId}
use Rattle.resource_lock.specs.declared.ids.WorkerId.{WorkerId}
use Rattle.resource_lock.specs.declared.changes.Change.{Change}
use Rattle.resource_lock.specs.declared.changes.Change.TheVariants.{Lock, Take}
use Rattle.lock_transforms.specs.TentativeView.{TentativeView, Worked, noted, with_lock, with_lease}
use Rattle.lock_transforms.specs.Making.{Makes}
use Rattle.lock_transforms.specs.Allowed.{Allowed}
use Rattle.lock_transforms.specs.Entry.{entry}
use Rattle.lock_transforms.specs.Table.{condition, acquires}
use Rattle.lock_transforms.specs.Taking.{lock_taken, locks_taken, lease_taken, all_taken, can_take_all, rises, acquired, is_open, may_acquire}
use Rattle.lock_transforms.specs.declared.entries.Kind.TheVariants as kinds
use Rattle.lock_transforms.specs.GoingOn.{WaitsForNews}
use Rattle.lock_transforms.proofs.NoMore.{NoMore, Still, kept_still, no_more_after}
use Rattle.lock_transforms.proofs.lemmas.Locking.{can_lock, cannot_lock, free_lock}
use Rattle.lock_transforms.proofs.lemmas.Disabled.{all_of_still, and_still, condition_still, or_still, same_still}
use Rattle.lock_transforms.proofs.Makings.{makes_none, makes_not, makes_one, makes_then, makes_stopped, made_is, worked_from}

-- taking a lock, as far as it can be taken
makes_lock_where : (t : TentativeView) (l : LockId) (own kept : Bool) → owns t.state t.worker l ≡ own → kept_from t.state t.worker l ≡ kept → AllAlone t.state → IsLockOf t.state l → has_parked t.state t.worker l ≡ false → 0 < t.room
    → Makes t (cond (not kept && not own) (noted t (Lock l)) t) (cond own [] (Lock l ∷ [])) (not kept)
makes_lock_where t l true true is kept alone within absent room = absurd (both_ways (kept_from t.state t.worker l) (own_not_kept t.state t.worker l alone is) kept)
makes_lock_where t l true false is kept alone within absent room = makes_none t
makes_lock_where t l false true is kept alone within absent room = makes_not t (Lock l) (cannot_lock t.state t.worker l kept)
makes_lock_where t l false false is kept alone within absent room = makes_one t (Lock l) within (can_lock t.state t.worker l is kept absent) room

pub makes_lock : (t : TentativeView) (l : LockId) → AllAlone t.state → IsLockOf t.state l → has_parked t.state t.worker l ≡ false → 0 < t.room → Makes t (with_lock t l) (lock_taken t.state t.worker l) (can_own t.state t.worker l)
makes_lock t l alone within absent room = makes_lock_where t l (owns t.state t.worker l) (kept_from t.state t.worker l) refl refl alone within absent room

-- taking a lease, as far as one can be taken
pub makes_lease : (t : TentativeView) → (holding_of t.state t.worker).blocked ≡ false → 0 < t.room → Makes t (with_lease t) (lease_taken t.state t.worker) (can_lease t.state t.worker)
makes_lease t free room = elim (cases_Bool (holding_of t.state t.worker).lease) [
  | inl had ↦ subst (λ b. Makes t (cond ((b || ltb (leases_out t.state) t.state.max_leases) && not b) (noted t Take) t) (cond b [] (Take ∷ [])) (b || ltb (leases_out t.state) t.state.max_leases)) (sym had) (makes_none t)
  | inr none ↦ subst (λ b. Makes t (cond ((b || ltb (leases_out t.state) t.state.max_leases) && not b) (noted t Take) t) (cond b [] (Take ∷ [])) (b || ltb (leases_out t.state) t.state.max_leases)) (sym none)
      (let open_ : (not (holding_of t.state t.worker).lease && not (holding_of t.state t.worker).blocked) ≡ true = and_from (not (holding_of t.state t.worker).lease) (not (holding_of t.state t.worker).blocked) (not_from_false _ none) (not_from_false _ free) in
      let is : can t.state t.worker Take ≡ ltb (leases_out t.state) t.state.max_leases = ap (λ b. b && ltb (leases_out t.state) t.state.max_leases) open_ in
      elim (cases_Bool (ltb (leases_out t.state) t.state.max_leases)) [
        | inl left ↦ subst (λ b. Makes t (cond (b && true) (noted t Take) t) (Take ∷ []) b) (sym left) (makes_one t Take tt (is ∙ left) room)
        | inr out ↦ subst (λ b. Makes t (cond (b && true) (noted t Take) t) (Take ∷ []) b) (sym out) (makes_not t Take (is ∙ out))
      ])
]

-- taking locks leaves what the worker has besides
holdings_one : (s : StateView) (w : WorkerId) (l : LockId) → (make_all s w (lock_taken s w l)).holdings ≡ s.holdings
holdings_one s w l = elim (owns s w l) as (λ b. (make_all s w (cond b [] (Lock l ∷ []))).holdings ≡ s.holdings) [ true ↦ refl | false ↦ refl ]

pub holdings_taken : (s : StateView) (w : WorkerId) (ls : List LockId) → (make_all s w (locks_taken s w ls)).holdings ≡ s.holdings
holdings_taken s w [] = refl
holdings_taken s w (l ∷ ls) =
    let next : StateView = make_all s w (lock_taken s w l) in
    ap (λ (x : StateView). x.holdings) (make_all-append s w (lock_taken s w l) (locks_taken (make_all s w (lock_taken s w l)) w ls))
    ∙ holdings_taken (make_all s w (lock_taken s w l)) w ls
    ∙ holdings_one s w l

-- a free lock taken changes nothing of which locks the worker can own
all_own_same : (s : StateView) (w : WorkerId) (l : LockId) (ls : List LockId) → owner_of s l ≡ None → list_all (can_own (make s w (Lock l)) w) ls ≡ list_all (can_own s w) ls
all_own_same s w l [] free = refl
all_own_same s w l (k ∷ ks) free =
    ap (λ b. not b && list_all (can_own (make s w (Lock l)) w) ks) (kept_same s w l k free)
    ∙ ap (λ b. can_own s w k && b) (all_own_same s w l ks free)

-- locks that the worker hasn't parked can be taken where it is kept from none of them
can_take_where : (s : StateView) (w : WorkerId) (l : LockId) (ls : List LockId) (own kept : Bool) → owns s w l ≡ own → kept_from s w l ≡ kept
    → ((x : StateView) → AllAlone x → AllByRecursion (λ k. has_parked x w k ≡ false) ls → can_all x w (locks_taken x w ls) ≡ list_all (can_own x w) ls)
    → AllAlone s → AllByRecursion (λ k. has_parked s w k ≡ false) (l ∷ ls)
    → can_all s w (cond own [] (Lock l ∷ []) ++ locks_taken (make_all s w (cond own [] (Lock l ∷ []))) w ls) ≡ (not kept && list_all (can_own s w) ls)
can_take_where s w l ls true true is kept rest alone absent = absurd (both_ways (kept_from s w l) (own_not_kept s w l alone is) kept)
can_take_where s w l ls true false is kept rest alone absent = rest s alone absent.1
can_take_where s w l ls false true is kept rest alone absent = ap (λ b. b && can_all (make s w (Lock l)) w (locks_taken (make s w (Lock l)) w ls)) (cannot_lock s w l kept)
can_take_where s w l ls false false is kept rest alone absent =
    ap (λ b. b && can_all (make s w (Lock l)) w (locks_taken (make s w (Lock l)) w ls)) (can_lock s w l is kept absent.0)
    ∙ rest (make s w (Lock l)) (alone_locked s w l alone kept) absent.1
    ∙ all_own_same s w l ls (none_from (owner_of s l) (free_lock s w l is kept))

can_take_locks : (s : StateView) (w : WorkerId) (ls : List LockId) → AllAlone s → AllByRecursion (λ l. has_parked s w l ≡ false) ls → can_all s w (locks_taken s w ls) ≡ list_all (can_own s w) ls
can_take_locks s w [] alone absent = refl
can_take_locks s w (l ∷ ls) alone absent = can_take_where s w l ls (owns s w l) (kept_from s w l) refl refl (λ x. can_take_locks x w ls) alone absent

-- a lease can be taken in a state in which the same are out
can_take_lease : (s t : StateView) (w : WorkerId) → t.holdings ≡ s.holdings → t.max_leases ≡ s.max_leases → (holding_of s w).blocked ≡ false → can_all t w (lease_taken s w) ≡ can_lease s w
can_take_lease s t w holdings most free =
    let here : can t w Take ≡ can s w Take = ap (λ (hs : List Holding). not (slice_index_or hs w.0 empty_holding).lease && not (slice_index_or hs w.0 empty_holding).blocked && ltb (count_by (λ (h : Holding). h.lease) hs) t.max_leases) holdings
    ∙ ap (λ n. not (holding_of s w).lease && not (holding_of s w).blocked && ltb (leases_out s) n) most in
    elim (cases_Bool (holding_of s w).lease) [
      | inl had ↦ subst (λ b. can_all t w (cond b [] (Take ∷ [])) ≡ (b || ltb (leases_out s) s.max_leases)) (sym had) refl
      | inr none ↦ subst (λ b. can_all t w (cond b [] (Take ∷ [])) ≡ (b || ltb (leases_out s) s.max_leases)) (sym none)
          (and-true (can t w Take) ∙ here ∙ ap (λ b. b && ltb (leases_out s) s.max_leases) (and_from (not (holding_of s w).lease) (not (holding_of s w).blocked) (not_from_false _ none) (not_from_false _ free)))
    ]

-- where all of it can be taken
pub can_all_taken : (s : StateView) (w : WorkerId) (ls : List LockId) → AllAlone s → AllByRecursion (λ l. has_parked s w l ≡ false) ls → (holding_of s w).blocked ≡ false → can_all s w (all_taken s w ls) ≡ can_take_all s w ls
can_all_taken s w ls alone absent free =
    can_all-append s w (locks_taken s w ls) (lease_taken s w)
    ∙ ap (λ b. b && can_all (make_all s w (locks_taken s w ls)) w (lease_taken s w)) (can_take_locks s w ls alone absent)
    ∙ ap (λ b. list_all (can_own s w) ls && b) (can_take_lease s (make_all s w (locks_taken s w ls)) w (holdings_taken s w ls) (sym (same_shape-make_all s w (locks_taken s w ls)).max_leases) free)

pub locks_taken-append : (s : StateView) (w : WorkerId) (ls ks : List LockId) → locks_taken s w (ls ++ ks) ≡ locks_taken s w ls ++ locks_taken (make_all s w (locks_taken s w ls)) w ks
locks_taken-append s w [] ks = refl
locks_taken-append s w (l ∷ ls) ks =
    ap (λ cs. lock_taken s w l ++ cs) (locks_taken-append (make_all s w (lock_taken s w l)) w ls ks)
    ∙ sym (append_assoc (lock_taken s w l) (locks_taken (make_all s w (lock_taken s w l)) w ls) _)
    ∙ ap (λ x. (lock_taken s w l ++ locks_taken (make_all s w (lock_taken s w l)) w ls) ++ locks_taken x w ks) (sym (make_all-append s w (lock_taken s w l) (locks_taken (make_all s w (lock_taken s w l)) w ls)))

few_lock : (s : StateView) (w : WorkerId) (l : LockId) → length (lock_taken s w l) ≤ 1
few_lock s w l = elim (owns s w l) as (λ b. length (cond b [] (Lock l ∷ [])) ≤ 1) [ true ↦ omega arith | false ↦ omega arith ]

pub few_locks : (s : StateView) (w : WorkerId) (ls : List LockId) → length (locks_taken s w ls) ≤ length ls
few_locks s w [] = omega arith
few_locks s w (l ∷ ls) = omega (arith, few_lock s w l, few_locks (make_all s w (lock_taken s w l)) w ls, length-append (lock_taken s w l) (locks_taken (make_all s w (lock_taken s w l)) w ls))

few_lease : (s : StateView) (w : WorkerId) → length (lease_taken s w) ≤ 1
few_lease s w = elim (holding_of s w).lease as (λ b. length (cond b [] (Take ∷ [])) ≤ 1) [ true ↦ omega arith | false ↦ omega arith ]

pub few_taken : (s : StateView) (w : WorkerId) (ls : List LockId) → length (all_taken s w ls) ≤ length ls + 1
few_taken s w ls = omega (arith, few_locks s w ls, few_lease s w, length-append (locks_taken s w ls) (lease_taken s w))

-- taking a lock changes nothing of who owns those above it
filter_above : (s : StateView) (w : WorkerId) (l : LockId) (low : ℕ) (ls : List LockId) → l.0 < low → rises low ls ≡ true → filter (λ k. not (owns (make s w (Lock l)) w k)) ls ≡ filter (λ k. not (owns s w k)) ls
filter_above s w l low [] below rising = refl
filter_above s w l low (k ∷ ks) below rising =
    let parts : (leb low k.0 ≡ true) × (rises (k.0 + 1) ks ≡ true) = and_parts (leb low k.0) (rises (k.0 + 1) ks) rising in
    let from : low ≤ k.0 = leb-true low k.0 parts.0 in
    let same : owns (make s w (Lock l)) w k ≡ owns s w k = ap (λ o. is_owner o w) (get_or-set_other s.owners l.0 k.0 (Some w) None (λ e. absurd (omega arith))) in
    ap (λ b. cond (not b) (k ∷ filter (λ k. not (owns (make s w (Lock l)) w k)) ks) (filter (λ k. not (owns (make s w (Lock l)) w k)) ks)) same
    ∙ ap (λ rest. cond (not (owns s w k)) (k ∷ rest) rest) (filter_above s w l (k.0 + 1) ks (omega arith) parts.1)

-- of locks in strictly rising order, those are taken that the worker doesn't own
locks_taken_is : (s : StateView) (w : WorkerId) (low : ℕ) (ls : List LockId) → rises low ls ≡ true → locks_taken s w ls ≡ map Lock (filter (λ l. not (owns s w l)) ls)
locks_taken_is s w low [] rising = refl
locks_taken_is s w low (l ∷ ls) rising =
    let parts : (leb low l.0 ≡ true) × (rises (l.0 + 1) ls ≡ true) = and_parts (leb low l.0) (rises (l.0 + 1) ls) rising in
    elim (owns s w l) as (λ b. cond b [] (Lock l ∷ []) ++ locks_taken (make_all s w (cond b [] (Lock l ∷ []))) w ls ≡ map Lock (cond (not b) (l ∷ filter (λ k. not (owns s w k)) ls) (filter (λ k. not (owns s w k)) ls))) [
      | true ↦ locks_taken_is s w (l.0 + 1) ls parts.1
      | false ↦ ap (λ cs. Lock l ∷ cs) (locks_taken_is (make s w (Lock l)) w (l.0 + 1) ls parts.1 ∙ ap (map Lock) (filter_above s w l (l.0 + 1) ls (omega arith) parts.1))
    ]

pub all_taken_is : (s : StateView) (w : WorkerId) (ls : List LockId) → rises 0 ls ≡ true → all_taken s w ls ≡ acquired s w ls
all_taken_is s w ls rising = ap (λ cs. cs ++ lease_taken s w) (locks_taken_is s w 0 ls rising)

acquires_from : (low high : ℕ) (lease : Bool) (p : LockId → Bool) (ls : List LockId) → low ≤ high → rises high ls ≡ true → acquires low lease (map Lock (filter p ls) ++ cond lease [] (Take ∷ [])) ≡ true
acquires_from low high true p [] below rising = refl
acquires_from low high false p [] below rising = refl
acquires_from low high lease p (l ∷ ls) below rising =
    let parts : (leb high l.0 ≡ true) × (rises (l.0 + 1) ls ≡ true) = and_parts (leb high l.0) (rises (l.0 + 1) ls) rising in
    let from : high ≤ l.0 = leb-true high l.0 parts.0 in
    elim (p l) as (λ b. acquires low lease (map Lock (cond b (l ∷ filter p ls) (filter p ls)) ++ cond lease [] (Take ∷ [])) ≡ true) [
      | true ↦ and_from (leb low l.0) (acquires (l.0 + 1) lease (map Lock (filter p ls) ++ cond lease [] (Take ∷ []))) (le-leb low l.0 (omega arith)) (acquires_from (l.0 + 1) (l.0 + 1) lease p ls (omega arith) parts.1)
      | false ↦ acquires_from low (l.0 + 1) lease p ls (omega arith) parts.1
    ]

-- what takes locks in strictly rising order, and a lease, is the list of an Acquire
pub acquires_all : (s : StateView) (w : WorkerId) (ls : List LockId) → rises 0 ls ≡ true → acquires 0 (holding_of s w).lease (all_taken s w ls) ≡ true
acquires_all s w ls rising = ap (acquires 0 (holding_of s w).lease) (all_taken_is s w ls rising) ∙ acquires_from 0 0 (holding_of s w).lease (λ l. not (owns s w l)) ls (omega arith) rising

-- what the worker has besides, once locks were taken
pub holding_taken : {a b : TentativeView} (ls : List LockId) → Makes a b (locks_taken a.state a.worker ls) true → holding_of b.state b.worker ≡ holding_of a.state a.worker
holding_taken {a} {b} ls made =
    ap (λ (w : WorkerId). holding_of b.state w) made.worker
    ∙ ap (λ (s : StateView). holding_of s a.worker) (made.whole refl).state
    ∙ ap (λ (hs : List Holding). slice_index_or hs a.worker.0 empty_holding) (holdings_taken a.state a.worker ls)

-- the lock at a place, after those before it
pub next_lock : {a b c : TentativeView} {taken : Bool} (ls : List LockId) (i : ℕ) (d : LockId) → i < length ls → Makes a b (locks_taken a.state a.worker (take i ls)) true
    → AllAlone b.state → IsLockOf b.state (get_or ls i d) → has_parked b.state b.worker (get_or ls i d) ≡ false → 0 < b.room
    → taken ≡ can_own b.state b.worker (get_or ls i d) → c ≡ with_lock b (get_or ls i d) → Makes a c (locks_taken a.state a.worker (take (i + 1) ls)) taken
next_lock {a} {b} {c} {taken} ls i d within front alone named absent room answer is =
    let split : locks_taken a.state a.worker (take (i + 1) ls) ≡ locks_taken a.state a.worker (take i ls) ++ lock_taken b.state b.worker (get_or ls i d) =
    ap (locks_taken a.state a.worker) (take_more ls i d within)
    ∙ locks_taken-append a.state a.worker (take i ls) (get_or ls i d ∷ [])
    ∙ ap (λ cs. locks_taken a.state a.worker (take i ls) ++ cs) (append-nil (lock_taken (make_all a.state a.worker (locks_taken a.state a.worker (take i ls))) a.worker (get_or ls i d))
    ∙ ap (λ (s : StateView). lock_taken s a.worker (get_or ls i d)) (sym (front.whole refl).state)
    ∙ ap (λ (w : WorkerId). lock_taken b.state w (get_or ls i d)) (sym front.worker)) in
    let step : Makes b c (lock_taken b.state b.worker (get_or ls i d)) taken = subst (λ (x : TentativeView). Makes b x (lock_taken b.state b.worker (get_or ls i d)) taken) (sym is)
    (subst (λ x. Makes b (with_lock b (get_or ls i d)) (lock_taken b.state b.worker (get_or ls i d)) x) (sym answer) (makes_lock b (get_or ls i d) alone named absent room)) in
    subst (λ (cs : List Change). Makes a c cs taken) (sym split) (makes_then front step)

-- there is room for what is left
pub room_left : {a b : TentativeView} (ls : List LockId) (i : ℕ) → i ≤ length ls → Makes a b (locks_taken a.state a.worker (take i ls)) true → length ls + 1 ≤ a.room → length ls - i + 1 ≤ b.room
room_left {a} ls i within front room = omega (arith, front.room, front.few, few_locks a.state a.worker (take i ls), length-take i ls)

-- where some of the locks can't be taken, all of it can't be
pub stopped_at : {a b : TentativeView} (ls : List LockId) (n : ℕ) → Makes a b (locks_taken a.state a.worker (take n ls)) false → Makes a b (all_taken a.state a.worker ls) false
stopped_at {a} {b} ls n front =
    let split : locks_taken a.state a.worker ls ≡ locks_taken a.state a.worker (take n ls) ++ locks_taken (make_all a.state a.worker (locks_taken a.state a.worker (take n ls))) a.worker (drop n ls) =
    ap (locks_taken a.state a.worker) (sym (take-append-drop n ls)) ∙ locks_taken-append a.state a.worker (take n ls) (drop n ls) in
    makes_stopped (lease_taken a.state a.worker) (subst (λ (cs : List Change). Makes a b cs false) (sym split) (makes_stopped (locks_taken (make_all a.state a.worker (locks_taken a.state a.worker (take n ls))) a.worker (drop n ls)) front))

-- the lease, after all locks
pub then_lease : {a b c : TentativeView} {taken : Bool} (ls : List LockId) (i : ℕ) → length ls ≤ i → Makes a b (locks_taken a.state a.worker (take i ls)) true → (holding_of b.state b.worker).blocked ≡ false → 0 < b.room
    → taken ≡ can_lease b.state b.worker → c ≡ with_lease b → Makes a c (all_taken a.state a.worker ls) taken
then_lease {a} {b} {c} {taken} ls i past front free room answer is =
    let locks : Makes a b (locks_taken a.state a.worker ls) true = subst (λ (ks : List LockId). Makes a b (locks_taken a.state a.worker ks) true) (take_all i ls past) front in
    let step : Makes b c (lease_taken b.state b.worker) taken = subst (λ (x : TentativeView). Makes b x (lease_taken b.state b.worker) taken) (sym is)
    (subst (λ x. Makes b (with_lease b) (lease_taken b.state b.worker) x) (sym answer) (makes_lease b free room)) in
    makes_then locks (subst (λ (h : Holding). Makes b c (cond h.lease [] (Take ∷ [])) taken) (holding_taken ls locks) step)

-- what the test of the locks reads are the graph, the state and the worker of the work
pub acquire_read : {b : Bool} {g h : GraphView} {s t : StateView} {v w : WorkerId} (ls : List LockId) → b ≡ may_acquire g s v ls → g ≡ h → s ≡ t → v ≡ w → b ≡ may_acquire h t w ls
acquire_read {g = g} {h} {s} {t} {v} {w} ls is graph state worker = is ∙ ap (λ (x : GraphView). may_acquire x s v ls) graph ∙ ap (λ (x : StateView). may_acquire h x v ls) state ∙ ap (λ (x : WorkerId). may_acquire h t x ls) worker

-- what took the locks and a lease made few changes
pub few_made : {a b : TentativeView} {all : Bool} (ls : List LockId) → a.made ≡ [] → Makes a b (all_taken a.state a.worker ls) all → length b.made ≤ length ls + 1
few_made {a} ls fresh made = omega (arith, made.few, few_taken a.state a.worker ls, ap length fresh)

-- and its entry is allowed
pub acquire_allowed : {a b : TentativeView} (ls : List LockId) → a.made ≡ [] → a.worker.0 < a.graph.workers → rises 0 ls ≡ true → may_acquire a.graph a.state a.worker ls ≡ true → Makes a b (all_taken a.state a.worker ls) true
    → Allowed a.graph a.state (entry a.worker kinds.Acquire (Some b.made))
acquire_allowed {a} {b} ls fresh worker rising may made =
    let worked : Worked a b = worked_from fresh made in record {
      worker = worker;
      kind = tt;
      finished = record {
        condition = (and_parts (condition a.graph a.state a.worker kinds.Acquire) (list_all (is_open a.graph a.state a.worker) ls) may).0;
        list = ap (acquires 0 (holding_of a.state a.worker).lease) (made_is fresh made) ∙ acquires_all a.state a.worker ls rising;
        named = worked.leads.named;
        possible = ap (can_all a.state a.worker) (made_is fresh made) ∙ (made.whole refl).possible;
      };
    }

-- after changes of others that let nobody go on, no more can be taken
can_own_still : {w : WorkerId} {s t : StateView} → NoMore w s t → (l : LockId) → Still (can_own s w l) (can_own t w l)
can_own_still n l = kept_still n l

can_lease_still : {w : WorkerId} {s t : StateView} → NoMore w s t → Still (can_lease s w) (can_lease t w)
can_lease_still {w} {s} {t} n = or_still _ _ _ _ (same_still (ap (λ (h : Holding). h.lease) n.holding))
    (λ left. lt-ltb (leases_out s) s.max_leases (omega (arith, n.leases, n.shape.max_leases, ltb-true (leases_out t) t.max_leases left)))

take_all_still : {w : WorkerId} {s t : StateView} → NoMore w s t → (ls : List LockId) → Still (can_take_all s w ls) (can_take_all t w ls)
take_all_still n ls = and_still _ _ _ _ (all_of_still _ _ (can_own_still n) ls) (can_lease_still n)

acquire_still : {w : WorkerId} {s t : StateView} → NoMore w s t → (g : GraphView) (ls : List LockId) → Still (may_acquire g s w ls) (may_acquire g t w ls)
acquire_still n g ls = and_still _ _ _ _ (condition_still n g kinds.Acquire)
    (all_of_still _ _ (λ l. and_still _ _ _ _ (λ h. h) (same_still (ap (λ (h : Holding). not (stands_in l h.parked)) n.holding))) ls)

-- so an Acquire waits for a lock or a lease that is given back
pub waits_acquire : (waits fails : Type 0) (ls : List LockId)
    → WaitsForNews (λ g w s. (may_acquire g s w ls ≡ false) ⊎ (waits × (can_take_all s w ls ≡ false))) (λ g w s. fails × (can_take_all s w ls ≡ false))
waits_acquire waits fails ls = λ g s v w c belongs good from own other named possible quiet again.
    let n : NoMore w s (make s v c) = no_more_after s v w c from other possible quiet in
    elim again [
      | inl kept ↦ inl (inl (false_from_ne_true (may_acquire g (make s v c) w ls) (λ h. false≢true (sym kept ∙ acquire_still n g ls h))))
      | inr short ↦ inl (inr (short.0, false_from_ne_true (can_take_all (make s v c) w ls) (λ h. false≢true (sym short.1 ∙ take_all_still n ls h))))
    ]

-- what the worker owns, it owns after more was taken
owns_after_one : (s : StateView) (w : WorkerId) (k l : LockId) → owns s w l ≡ true → owns (make_all s w (lock_taken s w k)) w l ≡ true
owns_after_one s w k l own = elim (owns s w k) as (λ b. owns (make_all s w (cond b [] (Lock k ∷ []))) w l ≡ true) [
  | true ↦ own
  | false ↦ elim (get_or-set_cases s.owners k.0 l.0 (Some w) None) [
    | inl at ↦ ap (λ o. is_owner o w) at.1 ∙ eq-eqb w.0 w.0 refl
    | inr off ↦ ap (λ o. is_owner o w) off ∙ own
  ]
]

owns_after : (s : StateView) (w : WorkerId) (ls : List LockId) (l : LockId) → owns s w l ≡ true → owns (make_all s w (locks_taken s w ls)) w l ≡ true
owns_after s w [] l own = own
owns_after s w (k ∷ ks) l own =
    ap (λ (x : StateView). owns x w l) (make_all-append s w (lock_taken s w k) (locks_taken (make_all s w (lock_taken s w k)) w ks))
    ∙ owns_after (make_all s w (lock_taken s w k)) w ks l (owns_after_one s w k l own)

owns_taken : (s : StateView) (w : WorkerId) (l : LockId) → IsLockOf s l → owns (make_all s w (lock_taken s w l)) w l ≡ true
owns_taken s w l within = elim (cases_Bool (owns s w l)) [
  | inl own ↦ subst (λ b. owns (make_all s w (cond b [] (Lock l ∷ []))) w l ≡ true) (sym own) own
  | inr other ↦ subst (λ b. owns (make_all s w (cond b [] (Lock l ∷ []))) w l ≡ true) (sym other)
      (ap (λ o. is_owner o w) (get_or-set_same s.owners l.0 (Some w) None within) ∙ eq-eqb w.0 w.0 refl)
]

locks_along : {s t : StateView} → SameShape s t → (ls : List LockId) → AllByRecursion (IsLockOf s) ls → AllByRecursion (IsLockOf t) ls
locks_along same [] within = tt
locks_along same (l ∷ ls) within = (omega (arith, within.0, same.locks), locks_along same ls within.1)

all_owned : (s : StateView) (w : WorkerId) (ls : List LockId) → AllByRecursion (IsLockOf s) ls → AllByRecursion (λ l. owns (make_all s w (locks_taken s w ls)) w l ≡ true) ls
all_owned s w [] within = tt
all_owned s w (l ∷ ls) within =
    let next : StateView = make_all s w (lock_taken s w l) in
    let same : SameShape s (make_all s w (lock_taken s w l)) = same_shape-make_all s w (lock_taken s w l) in
    let split : make_all s w (locks_taken s w (l ∷ ls)) ≡ make_all (make_all s w (lock_taken s w l)) w (locks_taken (make_all s w (lock_taken s w l)) w ls) = make_all-append s w (lock_taken s w l) (locks_taken (make_all s w (lock_taken s w l)) w ls) in (
      ap (λ (x : StateView). owns x w l) split ∙ owns_after (make_all s w (lock_taken s w l)) w ls l (owns_taken s w l within.0),
      subst (λ (x : StateView). AllByRecursion (λ k. owns x w k ≡ true) ls) (sym split) (all_owned (make_all s w (lock_taken s w l)) w ls (locks_along same ls within.1)),
    )

-- a lease taken leaves the locks
lease_leaves : (s t : StateView) (w : WorkerId) → (make_all t w (lease_taken s w)).owners ≡ t.owners
lease_leaves s t w = elim (holding_of s w).lease as (λ b. (make_all t w (cond b [] (Take ∷ []))).owners ≡ t.owners) [ true ↦ refl | false ↦ refl ]

-- the locks are the worker's, once all of it was taken
pub owned_then : (s : StateView) (w : WorkerId) (ls : List LockId) → All (IsLockOf s) ls → All (λ l. owns (make_all s w (all_taken s w ls)) w l ≡ true) ls
owned_then s w ls within =
    let owners : (make_all s w (all_taken s w ls)).owners ≡ (make_all s w (locks_taken s w ls)).owners =
    ap (λ (x : StateView). x.owners) (make_all-append s w (locks_taken s w ls) (lease_taken s w)) ∙ lease_leaves s (make_all s w (locks_taken s w ls)) w in
    λ i d inside. ap (λ (os : List (Option WorkerId)). is_owner (slice_index_or os (get_or ls i d).0 None) w) owners
    ∙ All-from_recursion (λ l. owns (make_all s w (locks_taken s w ls)) w l ≡ true) ls (all_owned s w ls (recursion_from_All (IsLockOf s) ls within)) i d inside

-- so are those of an Acquire
pub owned_acquired : (s : StateView) (w : WorkerId) (ls : List LockId) → rises 0 ls ≡ true → All (IsLockOf s) ls → All (λ l. owns (make_all s w (acquired s w ls)) w l ≡ true) ls
owned_acquired s w ls rising within = subst (λ (cs : List Change). All (λ l. owns (make_all s w cs) w l ≡ true) ls) (all_taken_is s w ls rising) (owned_then s w ls within)

pub has_locks : {a b : TentativeView} (ls : List LockId) → All (IsLockOf a.state) ls → Makes a b (all_taken a.state a.worker ls) true → All (λ l. owns b.state b.worker l ≡ true) ls
has_locks {a} {b} ls within made = λ i d inside.
    ap (λ (w : WorkerId). owns b.state w (get_or ls i d)) made.worker
    ∙ ap (λ (s : StateView). owns s a.worker (get_or ls i d)) (made.whole refl).state
    ∙ owned_then a.state a.worker ls within i d inside
