-- What an entry parks it gives back before, and what it takes up it had parked. So along its changes its worker owns and has parked no more locks than
-- before, but for those that a start or an acquisition takes.
use Rattle.std.proofs.Common.{◌≡◌, ◌≤◌, ℕ, zero, suc, ◌+◌, ◌-◌, Bool, true, false, cond, List, [], ◌∷◌, ◌++◌, length, map, get_or, reverse, set, Option, None, Some, sym, ap, ◌∙◌, subst, arith}
use Rattle.std.specs.List.{AllByRecursion}
use Rattle.std.proofs.lemmas.Bool.{and_parts, false≢true}
use Rattle.std.proofs.lemmas.List.{length-take-le, length_push}
use Rattle.lock_journal.specs.Names.{can, can_all, make, make_all, stands_last, without_last, NamesOnly, GraphView, action_of, actions_of, items_of}
use Rattle.lock_journal.specs.Names.{lock_with, units_of, Holding, IsWorkerOf, StateView, holding_of, is_owner, Change, Lock, Unlock, Take, Give}
use Rattle.lock_journal.specs.Names.{Move, ParkLock, Unpark, Enter, Retention, Retain, Release, ReleaseAndReacquire, LockId, WorkerId, Mark, Waiting}
use Rattle.lock_journal.specs.Names.{Queued, Skipped, TaskOf, ActionOf, UnitOf, Finishes, IsListOf, locks_gained, list_of, moved_units, on_park}
use Rattle.lock_journal.specs.Names.{on_resume, owned, owned_from, parked_locks, skipped_action, skipped_actions, skipped_waiting, taken_again}
use Rattle.lock_journal.specs.Names.{taken_up, Kind, Start, Skip, Submit, Park, Resume, Claim, Close, Block, Unblock, End, Acquire, HandBack}
use Rattle.lock_journal.specs.Names.{lock_before}
use Rattle.resource_lock.proofs.lemmas.Runs.{all_named_along, same_shape-make, worker_along}
use Rattle.lock_transforms.specs.Table.{set_down}
use Rattle.lock_journal.proofs.lemmas.OwnChanges.{own_holding, own_locks}
use Rattle.worker_notes.specs.Parts.{lock_total}
use Rattle.worker_notes.proofs.lemmas.OnTheWay.{length_with}

-- Of n locks at first there are never more than the limit.
abbrev StaysWithin : ℕ → ℕ → List Change → Type 0
StaysWithin limit n [] = n ≤ limit
StaysWithin limit n (Lock l ∷ cs) = (n ≤ limit) × StaysWithin limit (n + 1) cs
StaysWithin limit n (ParkLock l ∷ cs) = (n ≤ limit) × StaysWithin limit (n + 1) cs
StaysWithin limit n (Unlock l ∷ cs) = (n ≤ limit) × ((less : ℕ) → less + 1 ≡ n → StaysWithin limit less cs)
StaysWithin limit n (Unpark l ∷ cs) = (n ≤ limit) × ((less : ℕ) → less + 1 ≡ n → StaysWithin limit less cs)
StaysWithin limit n (c ∷ cs) = (n ≤ limit) × StaysWithin limit n cs

-- whatever number of locks within the limit there is at first
abbrev IsSteady : ℕ → List Change → Type 0
IsSteady limit cs = (n : ℕ) → n ≤ limit → StaysWithin limit n cs

module _ (limit : ℕ) where
  stays-append : (n : ℕ) (cs ds : List Change) → StaysWithin limit n cs → IsSteady limit ds → StaysWithin limit n (cs ++ ds)
  stays-append n [] ds here rest = rest n here
  stays-append n (Lock l ∷ cs) ds here rest = (here.0, stays-append (n + 1) cs ds here.1 rest)
  stays-append n (ParkLock l ∷ cs) ds here rest = (here.0, stays-append (n + 1) cs ds here.1 rest)
  stays-append n (Unlock l ∷ cs) ds here rest = (here.0, λ less is. stays-append less cs ds (here.1 less is) rest)
  stays-append n (Unpark l ∷ cs) ds here rest = (here.0, λ less is. stays-append less cs ds (here.1 less is) rest)
  stays-append n (c ∷ cs) ds here rest = (here.0, stays-append n cs ds here.1 rest)

  steady-append : (cs ds : List Change) → IsSteady limit cs → IsSteady limit ds → IsSteady limit (cs ++ ds)
  steady-append cs ds first rest = λ n le. stays-append n cs ds (first n le) rest

  steady_units : (us : List ℕ) (from to : Mark) → IsSteady limit (moved_units us from to)
  steady_units [] from to = λ n le. le
  steady_units (u ∷ us) from to = λ n le. (le, steady_units us from to n le)

  steady_action : (g : GraphView) (a : ℕ) → IsSteady limit (skipped_action g a)
  steady_action g a = λ n le. (le, steady_units (units_of g a) Waiting Skipped n le)

  steady_actions : (g : GraphView) (as' : List ℕ) → IsSteady limit (skipped_actions g as')
  steady_actions g [] = λ n le. le
  steady_actions g (a ∷ rest) = steady-append (skipped_action g a) (skipped_actions g rest) (steady_action g a) (steady_actions g rest)

  steady_if : (b : Bool) (cs : List Change) → IsSteady limit cs → IsSteady limit (cond b cs [])
  steady_if true cs steady = steady
  steady_if false cs steady = λ n le. le

  steady_waiting : (g : GraphView) (s : StateView) (as' : List ℕ) → IsSteady limit (skipped_waiting g s as')
  steady_waiting g s [] = λ n le. le
  steady_waiting g s (a ∷ rest) = steady-append _ (skipped_waiting g s rest) (steady_if _ (skipped_action g a) (steady_action g a)) (steady_waiting g s rest)

  steady_parked : (ls : List LockId) → IsSteady limit (parked_locks ls)
  steady_parked [] = λ n le. le
  steady_parked (l ∷ ls) = λ n le. (le, λ less is. (omega (arith, le, is), steady_parked ls (less + 1) (omega (arith, le, is))))

  steady_again : (ls : List LockId) → IsSteady limit (taken_again ls)
  steady_again [] = λ n le. le
  steady_again (l ∷ ls) = λ n le. (le, λ less is. (omega (arith, le, is), steady_again ls (less + 1) (omega (arith, le, is))))

  steady_unlocks : (ls : List LockId) → IsSteady limit (map Unlock ls)
  steady_unlocks [] = λ n le. le
  steady_unlocks (l ∷ ls) = λ n le. (le, λ less is. steady_unlocks ls less (omega (arith, le, is)))

  steady_down : (s : StateView) (w : WorkerId) → IsSteady limit (set_down s w)
  steady_down s w = λ n le. (le, stays-append n (parked_locks (owned s w)) (Enter ∷ []) (steady_parked (owned s w) n le) (λ k low. (low, low)))

  steady_up : (s : StateView) (w : WorkerId) → IsSteady limit (taken_up s w)
  steady_up s w =
      let ls : List LockId = reverse (holding_of s w).parked in
      λ n le. (le, stays-append n (taken_again ls) (Take ∷ []) (steady_again ls n le) (λ k low. (low, low)))

  steady_on_park : (r : Retention) (l : LockId) → IsSteady limit (on_park r l)
  steady_on_park Retain l = λ n le. (le, le)
  steady_on_park Release l = λ n le. (le, (le, λ less is. (omega (arith, le, is), omega (arith, le, is))))
  steady_on_park ReleaseAndReacquire l = λ n le. (le, (le, λ less is. (omega (arith, le, is), omega (arith, le, is))))

  steady_on_resume : (r : Retention) (l : LockId) → IsSteady limit (on_resume r l)
  steady_on_resume Retain l = λ n le. (le, le)
  steady_on_resume Release l = λ n le. (le, λ less is. omega (arith, le, is))
  steady_on_resume ReleaseAndReacquire l = λ n le. (le, λ less is. (omega (arith, le, is), (omega (arith, le, is), omega (arith, le, is))))

  -- as many locks more as there are changes, of whatever kind
  stays_by_length : (n : ℕ) (cs : List Change) → n + length cs ≤ limit → StaysWithin limit n cs
  stays_by_length n [] le = omega (arith, le)
  stays_by_length n (Lock l ∷ cs) le = (omega (arith, le), stays_by_length (n + 1) cs (omega (arith, le)))
  stays_by_length n (ParkLock l ∷ cs) le = (omega (arith, le), stays_by_length (n + 1) cs (omega (arith, le)))
  stays_by_length n (Unlock l ∷ cs) le = (omega (arith, le), λ less is. stays_by_length less cs (omega (arith, le, is)))
  stays_by_length n (Unpark l ∷ cs) le = (omega (arith, le), λ less is. stays_by_length less cs (omega (arith, le, is)))
  stays_by_length n (c ∷ cs) le = (omega (arith, le), stays_by_length n cs (omega (arith, le)))

  -- the list of a kind that gains none
  stays_fixed : (g : GraphView) (s : StateView) (w : WorkerId) (k : Kind) (cs : List Change) (n : ℕ) → cs ≡ list_of g s w k → IsSteady limit (list_of g s w k) → n + 0 ≤ limit → StaysWithin limit n cs
  stays_fixed g s w k cs n list steady le = subst (StaysWithin limit n) (sym list) (steady n (omega (arith, le)))

  stays_listed : (g : GraphView) (s : StateView) (w : WorkerId) (k : Kind) (cs : List Change) (n : ℕ) → IsListOf g s w k cs → n + locks_gained k (length cs) ≤ limit → StaysWithin limit n cs
  stays_listed g s w (Start t) cs n list le = subst (StaysWithin limit n) (sym list) (omega (arith, le), (le, (le, le)))
  stays_listed g s w (Skip t) cs n list le = stays_fixed g s w (Skip t) cs n list (λ k low. (low, steady_actions g (actions_of g t) k low)) le
  stays_listed g s w (Submit a) cs n list le = stays_fixed g s w (Submit a) cs n list (λ k low. (low, steady_units (items_of g a) Waiting Queued k low)) le
  stays_listed g s w (Park a) cs n list le =
      stays_fixed g s w (Park a) cs n list (steady-append (on_park (action_of g a).retention (lock_with g a)) _ (steady_on_park (action_of g a).retention (lock_with g a)) (λ k low. (low, low))) le
  stays_listed g s w (Resume a) cs n list le =
      stays_fixed g s w (Resume a) cs n list (steady-append (on_resume (action_of g a).retention (lock_with g a)) _ (steady_on_resume (action_of g a).retention (lock_with g a)) (λ k low. (low, low))) le
  stays_listed g s w (Claim u) cs n list le = stays_fixed g s w (Claim u) cs n list (λ k low. (low, (low, low))) le
  stays_listed g s w (Close c) cs n list le = stays_fixed g s w (Close c) cs n list (λ k low. (low, (low, low))) le
  stays_listed g s w (Block (Some u)) cs n list le = stays_fixed g s w (Block (Some u)) cs n list (λ k low. (low, steady_down s w k low)) le
  stays_listed g s w (Block None) cs n list le = stays_fixed g s w (Block None) cs n list (steady_down s w) le
  stays_listed g s w (Unblock (Some c)) cs n list le = stays_fixed g s w (Unblock (Some c)) cs n list (steady-append (taken_up s w) _ (steady_up s w) (λ k low. (low, low))) le
  stays_listed g s w (Unblock None) cs n list le = stays_fixed g s w (Unblock None) cs n list (steady_up s w) le
  stays_listed g s w (End t) cs n list le =
      stays_fixed g s w (End t) cs n list
      (steady-append (skipped_waiting g s (actions_of g t)) _ (steady_waiting g s (actions_of g t)) (λ k low. (low, steady_if (holding_of s w).lease _ (λ j lower. (lower, λ less is. (omega (arith, lower, is), omega (arith, lower, is)))) k low))) le
  stays_listed g s w Acquire cs n list le = stays_by_length n cs le
  stays_listed g s w HandBack cs n list le =
      stays_fixed g s w HandBack cs n list (steady-append (map Unlock (owned s w)) _ (steady_unlocks (owned s w)) (steady_if (holding_of s w).lease (Give ∷ []) (λ k low. (low, low)))) le

  stays_now : (n : ℕ) (cs : List Change) → StaysWithin limit n cs → n ≤ limit
  stays_now n [] stays = stays
  stays_now n (Lock l ∷ cs) stays = stays.0
  stays_now n (c ∷ cs) stays = stays.0

-- one lock less is owned
one_less_owned : (n i : ℕ) (os : List (Option WorkerId)) (w : WorkerId) → is_owner (get_or os i None) w ≡ true → length (owned_from n (set os i None) w) + 1 ≡ length (owned_from n os w)
one_less_owned n i [] w is = absurd (false≢true is)
one_less_owned n zero (o ∷ os) w is =
    let rest : List LockId = owned_from (n + 1) os w in
    let longer : length rest + 1 ≡ length (cond true (record { 0 = n } ∷ rest) rest) = omega arith in
    longer ∙ ap (λ b. length (cond b (record { 0 = n } ∷ rest) rest)) (sym is)
one_less_owned n (suc i) (o ∷ os) w is = at (is_owner o w) (one_less_owned (n + 1) i os w is)
  where
    at : (b : Bool) → length (owned_from (n + 1) (set os i None) w) + 1 ≡ length (owned_from (n + 1) os w)
        → length (cond b (record { 0 = n } ∷ owned_from (n + 1) (set os i None) w) (owned_from (n + 1) (set os i None) w)) + 1 ≡ length (cond b (record { 0 = n } ∷ owned_from (n + 1) os w) (owned_from (n + 1) os w))
    at true rest = omega (arith, rest)
    at false rest = rest

one_less_parked : (l : LockId) (ls : List LockId) → stands_last l ls ≡ true → length (without_last ls) + 1 ≡ length ls
one_less_parked l [] last = absurd (false≢true last)
one_less_parked l (k ∷ ls) last = omega (arith, length-take-le (length (k ∷ ls) - 1) (k ∷ ls) (omega arith))

-- how many locks there are after a change that can be made
module _ (s : StateView) (w : WorkerId) (worker : IsWorkerOf s w) where
  parked_after : (c : Change) → (h : Holding) → holding_of (make s w c) w ≡ h → length (holding_of (make s w c) w).parked ≡ length h.parked
  parked_after c h is = ap (λ (x : Holding). length x.parked) is

  stays_next : (limit : ℕ) (c : Change) (cs : List Change) → NamesOnly s c → can s w c ≡ true → StaysWithin limit (lock_total s w) (c ∷ cs) → StaysWithin limit (lock_total (make s w c) w) cs
  stays_next limit (Lock l) cs named possible stays =
      let more = ap (λ (ls : List LockId). length ls) (own_locks s w (Lock l) named possible) ∙ length_with lock_before l (owned s w) in
      let total : lock_total s w + 1 ≡ lock_total (make s w (Lock l)) w = omega (arith, more) in
      subst (λ n. StaysWithin limit n cs) total stays.1
  stays_next limit (Unlock l) cs named possible stays =
      let less = one_less_owned 0 l.0 s.owners w possible in
      stays.1 (lock_total (make s w (Unlock l)) w) (omega (arith, less))
  stays_next limit (ParkLock l) cs named possible stays =
      let more = parked_after (ParkLock l) _ (own_holding s w (ParkLock l) worker) ∙ length_push (holding_of s w).parked l in
      let total : lock_total s w + 1 ≡ lock_total (make s w (ParkLock l)) w = omega (arith, more) in
      subst (λ n. StaysWithin limit n cs) total stays.1
  stays_next limit (Unpark l) cs named possible stays =
      let left = parked_after (Unpark l) _ (own_holding s w (Unpark l) worker) in
      let less = one_less_parked l (holding_of s w).parked possible in
      stays.1 (lock_total (make s w (Unpark l)) w) (omega (arith, left, less))
  stays_next limit (Move (TaskOf t) from to) cs named possible stays = stays.1
  stays_next limit (Move (ActionOf a) from to) cs named possible stays = stays.1
  stays_next limit (Move (UnitOf u) from to) cs named possible stays = stays.1
  stays_next limit c cs named possible stays = subst (λ n. StaysWithin limit n cs) (ap (λ k. length (owned s w) + k) (sym (parked_after c _ (own_holding s w c worker)))) stays.1

-- on each front of changes that can be made
few_along : (limit : ℕ) (s : StateView) (w : WorkerId) (front behind : List Change) → IsWorkerOf s w → AllByRecursion (NamesOnly s) (front ++ behind) → can_all s w (front ++ behind) ≡ true → StaysWithin limit (lock_total s w) (front ++ behind)
    → lock_total (make_all s w front) w ≤ limit
few_along limit s w [] behind worker named possible stays = stays_now limit (lock_total s w) behind stays
few_along limit s w (c ∷ front) behind worker named possible stays =
    let shape = same_shape-make s w c in
    let p = and_parts (can s w c) (can_all (make s w c) w (front ++ behind)) possible in
    few_along limit (make s w c) w front behind (worker_along s (make s w c) w shape worker) (all_named_along s (make s w c) (front ++ behind) shape named.1) p.1
    (stays_next s w worker limit c (front ++ behind) named.0 p.0 stays)

-- an entry's changes, up to each of them
pub few_locks_on_the_way : (limit : ℕ) (g : GraphView) (s : StateView) (w : WorkerId) (k : Kind) (cs : List Change) → IsWorkerOf s w → Finishes g s w k cs → lock_total s w + locks_gained k (length cs) ≤ limit → (front behind : List Change)
    → cs ≡ front ++ behind → lock_total (make_all s w front) w ≤ limit
few_locks_on_the_way limit g s w k cs worker f le front behind is =
    few_along limit s w front behind worker (subst (AllByRecursion (NamesOnly s)) is f.named) (ap (can_all s w) (sym is) ∙ f.possible)
    (subst (StaysWithin limit (lock_total s w)) is (stays_listed limit g s w k cs (lock_total s w) f.list le))

-- fewer changes gain no more
pub gained_by_fewer : (k : Kind) (few many : ℕ) → few ≤ many → locks_gained k few ≤ locks_gained k many
gained_by_fewer (Start t) few many le = omega arith
gained_by_fewer Acquire few many le = le
gained_by_fewer _ few many le = omega arith
