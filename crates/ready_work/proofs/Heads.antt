-- The lowest startable task of each lock that is free.
use Rattle.std.proofs.Common.{◌≡◌, ◌≢◌, ℕ, zero, suc, ◌+◌, ◌<◌, ◌≤◌, Bool, true, false, ◌&&◌, eqb, List, length, refl, sym, ◌∙◌, ap, subst, arith, ◌⊎◌, inl, inr}
use Rattle.std.proofs.lemmas.Bool.{and_from, and_parts, cases_Bool, cases_eq, cases_lt, eq-eqb, eqb-true, true≢false}
use Rattle.ready_work.specs.LockOrderView.{lock_at, place_of, start_of, IsPlace}
use Rattle.ready_work.specs.Lowest.{IsFrom, IsLowest, IsNone}
use Rattle.ready_work.specs.NumberSetView.{NumberSetView, has, room_of, set_where, IsMember}
use Rattle.ready_work.specs.Sets.{IsRightAt}
use Rattle.ready_work.specs.StartableTasksView.{StartableTasksView, IsUnowned, IsUnownedBut, IsWith}
use Rattle.ready_work.specs.StartableTasks.{startable_tasks_view, tasks_at, AreHeads, HasHeads, IsHead}
use Rattle.ready_work.specs.declared.startable_tasks.StartableTasks.TheInside.{Inside}
use Rattle.ready_work.proofs.Sets.{has_where, none_where, nowhere, room_where, same_where}
use Rattle.ready_work.proofs.Places.{before_start, is_place, one_place, place_rises}

-- ---- tasks and their places

-- a member is a task whose place is one
pub record StandsIn (locks : List ℕ) (places : NumberSetView) (t : ℕ) : Type 0 where
  pub within : t < length locks
  pub at : IsMember places (place_of locks t)

pub member_at : (locks : List ℕ) (places : NumberSetView) (t : ℕ) → t < length locks → has (tasks_at locks places) t ≡ has places (place_of locks t)
member_at locks places t lt = has_where (λ k. has places (place_of locks k)) (length locks) t lt

pub stands_in : (locks : List ℕ) (places : NumberSetView) (t : ℕ) → IsMember (tasks_at locks places) t → StandsIn locks places t
stands_in locks places t member = at (cases_lt t (length locks))
  where
    at : (t < length locks) ⊎ (length locks ≤ t) → StandsIn locks places t
    at (inl lt) = record { within = lt; at = sym (member_at locks places t lt) ∙ member }
    at (inr past) = absurd (true≢false (sym member ∙ none_where (λ k. has places (place_of locks k)) (length locks) t past))

-- one place is put
pub other_tasks : (locks : List ℕ) (old new : NumberSetView) (task : ℕ) → task < length locks → ((p : ℕ) → p ≢ place_of locks task → has new p ≡ has old p) → (t : ℕ) → t ≢ task → has (tasks_at locks new) t ≡ has (tasks_at locks old) t
other_tasks locks old new task within others t ne = at (cases_lt t (length locks))
  where
    at : (t < length locks) ⊎ (length locks ≤ t) → has (tasks_at locks new) t ≡ has (tasks_at locks old) t
    at (inl lt) = member_at locks new t lt ∙ others (place_of locks t) (λ e. ne (one_place locks t task lt within e)) ∙ sym (member_at locks old t lt)
    at (inr past) = none_where (λ k. has new (place_of locks k)) (length locks) t past ∙ sym (none_where (λ k. has old (place_of locks k)) (length locks) t past)

pub still_placed : (locks : List ℕ) (old new : NumberSetView) (task : ℕ) → task < length locks → ((p : ℕ) → p ≢ place_of locks task → has new p ≡ has old p) → ((p : ℕ) → IsMember old p → IsPlace locks p) → (p : ℕ) → IsMember new p → IsPlace locks p
still_placed locks old new task within others placed p member = at (cases_eq p (place_of locks task))
  where
    at : (p ≡ place_of locks task) ⊎ (p ≡ place_of locks task → ⊥) → IsPlace locks p
    at (inl e) = subst (IsPlace locks) (sym e) (is_place locks task within)
    at (inr ne) = placed p (sym (others p ne) ∙ member)

-- ---- the lowest task with a lock

start_before : (locks : List ℕ) (t lock : ℕ) → lock_at locks t ≡ lock → start_of locks lock ≤ place_of locks t
start_before locks t lock is = omega (arith, ap (start_of locks) is)

pub lowest_there : (locks : List ℕ) (places : NumberSetView) (lock place t : ℕ) → IsLowest (IsFrom (start_of locks lock) (IsMember places)) place → t < length locks → place_of locks t ≡ place → lock_at locks t ≡ lock → IsLowest (IsWith locks (tasks_at locks places) lock) t
lowest_there locks places lock place t low within at is = record {
  is = record { is = member_at locks places t within ∙ ap (has places) at ∙ low.is.such; same = is };
  least = λ k lt w.
      let stands = stands_in locks places k w.is in
      let rises : place_of locks k < place_of locks t = place_rises locks k t lt within (w.same ∙ sym is) in
      low.least (place_of locks k) (omega (arith, rises, at)) (record { past = start_before locks k lock w.same; such = stands.at });
}

pub none_there : (locks : List ℕ) (places : NumberSetView) (lock place t : ℕ) → IsLowest (IsFrom (start_of locks lock) (IsMember places)) place → t < length locks → place_of locks t ≡ place → (lock_at locks t ≡ lock → ⊥) → IsNone (IsWith locks (tasks_at locks places) lock)
none_there locks places lock place t low within at other = record {
  none = λ k w. later k w (stands_in locks places k w.is) (cases_lt (place_of locks k) place) (cases_lt (lock_at locks t) lock);
}
  where
    later : (k : ℕ) → IsWith locks (tasks_at locks places) lock k → StandsIn locks places k → (place_of locks k < place) ⊎ (place ≤ place_of locks k) → (lock_at locks t < lock) ⊎ (lock ≤ lock_at locks t) → ⊥
    later k w stands (inl lt) _ = low.least (place_of locks k) lt (record { past = start_before locks k lock w.same; such = stands.at })
    later k w stands (inr le) (inl below) =
        let past = low.is.past in
        let before : place_of locks t < start_of locks lock = before_start locks t lock within below in
        absurd (omega (arith, past, before, at))
    later k w stands (inr le) (inr above) =
        let apart : lock_at locks k < lock_at locks t = at_most (cases_eq (lock_at locks t) lock) in
        let before : place_of locks k < start_of locks (lock_at locks t) = before_start locks k (lock_at locks t) stands.within apart in
        absurd (omega (arith, before, le, at, start_before locks t (lock_at locks t) refl))
      where
        at_most : (lock_at locks t ≡ lock) ⊎ (lock_at locks t ≡ lock → ⊥) → lock_at locks k < lock_at locks t
        at_most (inl e) = absurd (other e)
        at_most (inr ne) = omega (arith, w.same, above, ne)

pub none_from_start : (locks : List ℕ) (places : NumberSetView) (lock : ℕ) → IsNone (IsFrom (start_of locks lock) (IsMember places)) → IsNone (IsWith locks (tasks_at locks places) lock)
none_from_start locks places lock none = record {
  none = λ k w. none.none (place_of locks k) (record { past = start_before locks k lock w.same; such = (stands_in locks places k w.is).at });
}

-- ---- heads

-- the lowest task with the lock is put, and no other
pub record PutsLowest (locks : List ℕ) (tasks : NumberSetView) (lock : ℕ) (is_free : Bool) (old new : NumberSetView) : Type 0 where
  pub each : (t : ℕ) → (IsLowest (IsWith locks tasks lock) t × (has new t ≡ is_free)) ⊎ ((IsLowest (IsWith locks tasks lock) t → ⊥) × (has new t ≡ has old t))

lowest_once : (Such : ℕ → Type 0) (m n : ℕ) → IsLowest Such m → IsLowest Such n → m ≡ n
lowest_once Such m n first second = at (cases_lt m n) (cases_lt n m)
  where
    at : (m < n) ⊎ (n ≤ m) → (n < m) ⊎ (m ≤ n) → m ≡ n
    at (inl lt) _ = absurd (second.least m lt first.is)
    at (inr le) (inl lt) = absurd (first.least n lt second.is)
    at (inr le) (inr ge) = omega arith

pub puts_lowest : (locks : List ℕ) (tasks : NumberSetView) (lock : ℕ) (is_free : Bool) (old new : NumberSetView) (head : ℕ) → IsLowest (IsWith locks tasks lock) head → has new head ≡ is_free → ((k : ℕ) → k ≢ head → has new k ≡ has old k) → PutsLowest locks tasks lock is_free old new
puts_lowest locks tasks lock is_free old new head low put others = record { each = λ t. at t (cases_eq t head) }
  where
    at : (t : ℕ) → (t ≡ head) ⊎ (t ≡ head → ⊥) → (IsLowest (IsWith locks tasks lock) t × (has new t ≡ is_free)) ⊎ ((IsLowest (IsWith locks tasks lock) t → ⊥) × (has new t ≡ has old t))
    at t (inl e) = inl (subst (IsLowest (IsWith locks tasks lock)) (sym e) low, ap (has new) e ∙ put)
    at t (inr ne) = inr (λ also. ne (lowest_once (IsWith locks tasks lock) t head also low), others t ne)

pub puts_none : (locks : List ℕ) (tasks : NumberSetView) (lock : ℕ) (is_free : Bool) (heads : NumberSetView) → IsNone (IsWith locks tasks lock) → PutsLowest locks tasks lock is_free heads heads
puts_none locks tasks lock is_free heads none = record { each = λ t. inr (λ low. none.none t low.is, refl) }

-- the lowest task of a lock is a head where the lock is free
pub heads_put : (locks : List ℕ) (tasks old_free new_free old new : NumberSetView) (lock : ℕ) (is_free : Bool) → has new_free lock ≡ is_free → ((l : ℕ) → l ≢ lock → has new_free l ≡ has old_free l) → PutsLowest locks tasks lock is_free old new → AreHeads locks tasks old_free old → AreHeads locks tasks new_free new
heads_put locks tasks old_free new_free old new lock is_free put others puts are t = at (puts.each t) (cases_eq (lock_at locks t) lock) (are t)
  where
    at : (IsLowest (IsWith locks tasks lock) t × (has new t ≡ is_free)) ⊎ ((IsLowest (IsWith locks tasks lock) t → ⊥) × (has new t ≡ has old t)) → (lock_at locks t ≡ lock) ⊎ (lock_at locks t ≡ lock → ⊥) → IsRightAt (IsHead locks tasks old_free) old t → IsRightAt (IsHead locks tasks new_free) new t
    at (inl (low, is)) _ _ = (
      λ h. record { lowest = subst (λ l. IsLowest (IsWith locks tasks l) t) (sym low.is.same) low; unowned = ap (has new_free) low.is.same ∙ put ∙ sym is ∙ h },
      λ p. is ∙ sym put ∙ ap (has new_free) (sym low.is.same) ∙ p.unowned,
    )
    at (inr (not_low, same)) (inl e) right = (
      λ h. absurd (not_low (subst (λ l. IsLowest (IsWith locks tasks l) t) e (right.0 (sym same ∙ h)).lowest)),
      λ p. absurd (not_low (subst (λ l. IsLowest (IsWith locks tasks l) t) e p.lowest)),
    )
    at (inr (not_low, same)) (inr ne) right = (
      λ h. let head = right.0 (sym same ∙ h) in record { lowest = head.lowest; unowned = others (lock_at locks t) ne ∙ head.unowned },
      λ p. same ∙ right.1 (record { lowest = p.lowest; unowned = sym (others (lock_at locks t) ne) ∙ p.unowned }),
    )

lowest_moved : (locks : List ℕ) (old new : NumberSetView) (lock t : ℕ) → ((k : ℕ) → lock_at locks k ≡ lock → has new k ≡ has old k) → IsLowest (IsWith locks old lock) t → IsLowest (IsWith locks new lock) t
lowest_moved locks old new lock t same low = record {
  is = record { is = same t low.is.same ∙ low.is.is; same = low.is.same };
  least = λ k lt w. low.least k lt (record { is = sym (same k w.same) ∙ w.is; same = w.same });
}

-- tasks of a lock that isn't free come and go, and the heads stay
pub heads_stay : (locks : List ℕ) (old new free heads : NumberSetView) (lock : ℕ) → has free lock ≡ false → ((k : ℕ) → (lock_at locks k ≡ lock → ⊥) → has new k ≡ has old k) → AreHeads locks old free heads → AreHeads locks new free heads
heads_stay locks old new free heads lock closed same are t = at (cases_eq (lock_at locks t) lock) (are t)
  where
    unfree : lock_at locks t ≡ lock → IsMember free (lock_at locks t) → ⊥
    unfree e open' = true≢false (sym open' ∙ ap (has free) e ∙ closed)

    at : (lock_at locks t ≡ lock) ⊎ (lock_at locks t ≡ lock → ⊥) → IsRightAt (IsHead locks old free) heads t → IsRightAt (IsHead locks new free) heads t
    at (inl e) right = (λ h. absurd (unfree e (right.0 h).unowned), λ p. absurd (unfree e p.unowned))
    at (inr ne) right = (
      λ h. let head = right.0 h in record { lowest = lowest_moved locks old new (lock_at locks t) t (λ k e. same k (λ f. ne (sym e ∙ f))) head.lowest; unowned = head.unowned },
      λ p. right.1 (record { lowest = lowest_moved locks new old (lock_at locks t) t (λ k e. sym (same k (λ f. ne (sym e ∙ f)))) p.lowest; unowned = p.unowned }),
    )

-- ---- the fields after a change

pub room_locks : (all : Inside) (v : StartableTasksView) → startable_tasks_view all ≡ v → room_of v.free ≡ all.order.lock_count
room_locks all v is = sym (ap (λ (w : StartableTasksView). room_of w.free) is) ∙ room_where (has all.free) all.order.lock_count

pub room_tasks : (all : Inside) (v : StartableTasksView) → startable_tasks_view all ≡ v → room_of v.tasks ≡ length all.order.locks
room_tasks all v is = sym (ap (λ (w : StartableTasksView). room_of w.tasks) is) ∙ room_where (λ t. has all.places (place_of all.order.locks t)) (length all.order.locks)

-- a lock was put, and its lowest task
pub after_lock : (all : Inside) (free heads : NumberSetView) (lock : ℕ) (is_free : Bool) → HasHeads all → lock < all.order.lock_count → room_of free ≡ room_of all.free → has free lock ≡ is_free → ((l : ℕ) → l ≢ lock → has free l ≡ has all.free l) → room_of heads ≡ room_of all.heads → PutsLowest all.order.locks (tasks_at all.order.locks all.places) lock is_free all.heads heads → HasHeads (record { order = all.order; places = all.places; free = free; heads = heads })
after_lock all free heads lock is_free is within free_room put others heads_room puts = record {
  places_room = is.places_room;
  free_room = omega (arith, is.free_room, free_room);
  heads_room = omega (arith, is.heads_room, heads_room);
  placed = is.placed;
  heads = heads_put all.order.locks (tasks_at all.order.locks all.places) (set_where (has all.free) all.order.lock_count) (set_where (has free) all.order.lock_count) all.heads heads lock is_free
      (has_where (has free) all.order.lock_count lock within ∙ put)
      (λ l ne. same_where (has all.free) (has free) all.order.lock_count all.order.lock_count l refl (others l ne)) puts is.heads;
}

-- a task of a lock that isn't free was put
pub after_task : (all : Inside) (places : NumberSetView) (task : ℕ) → HasHeads all → task < length all.order.locks → has (set_where (has all.free) all.order.lock_count) (lock_at all.order.locks task) ≡ false → room_of places ≡ room_of all.places → ((p : ℕ) → p ≢ place_of all.order.locks task → has places p ≡ has all.places p) → HasHeads (record { order = all.order; places = places; free = all.free; heads = all.heads })
after_task all places task is within closed room others = record {
  places_room = omega (arith, is.places_room, room);
  free_room = is.free_room;
  heads_room = is.heads_room;
  placed = still_placed all.order.locks all.places places task within others is.placed;
  heads = heads_stay all.order.locks (tasks_at all.order.locks all.places) (tasks_at all.order.locks places) (set_where (has all.free) all.order.lock_count) all.heads (lock_at all.order.locks task) closed
      (λ k apart. other_tasks all.order.locks all.places places task within others k (λ e. apart (ap (lock_at all.order.locks) e))) is.heads;
}

-- no task and no lock
pub no_heads : (all : Inside) → length all.order.locks ≤ room_of all.places → all.order.lock_count ≤ room_of all.free → length all.order.locks ≤ room_of all.heads → ((k : ℕ) → has all.places k ≡ false) → ((k : ℕ) → has all.heads k ≡ false) → HasHeads all
no_heads all places_room free_room heads_room no_places none = record {
  places_room = places_room;
  free_room = free_room;
  heads_room = heads_room;
  placed = λ p member. absurd (true≢false (sym member ∙ no_places p));
  heads = λ t. (
    λ h. absurd (true≢false (sym h ∙ none t)),
    λ p. absurd (true≢false (sym p.lowest.is.is ∙ nowhere (λ k. has all.places (place_of all.order.locks k)) (length all.order.locks) (λ k. no_places (place_of all.order.locks k)) t)),
  );
}

-- ---- the lowest head

-- a number that passes, below this one, and none lower
record FirstBelow (p : ℕ → Bool) (n : ℕ) : Type 0 where
  first : ℕ
  low : first < n
  passes : p first ≡ true
  least : (k : ℕ) → k < first → p k ≡ true → ⊥

first_below : (p : ℕ → Bool) (n : ℕ) → FirstBelow p n ⊎ ((k : ℕ) → k < n → p k ≡ true → ⊥)
first_below p zero = inr (λ k lt is. absurd (omega arith))
first_below p (suc n) = at (first_below p n) (cases_Bool (p n))
  where
    none_yet : ((k : ℕ) → k < n → p k ≡ true → ⊥) → p n ≡ false → (k : ℕ) → k < suc n → (k ≡ n) ⊎ (k ≡ n → ⊥) → p k ≡ true → ⊥
    none_yet none not_n k lt (inl e) is = true≢false (sym is ∙ ap p e ∙ not_n)
    none_yet none not_n k lt (inr ne) is = none k (omega arith) is

    at : FirstBelow p n ⊎ ((k : ℕ) → k < n → p k ≡ true → ⊥) → (p n ≡ true) ⊎ (p n ≡ false) → FirstBelow p (suc n) ⊎ ((k : ℕ) → k < suc n → p k ≡ true → ⊥)
    at (inl found) _ = let low = found.low in inl (record { first = found.first; low = omega arith; passes = found.passes; least = found.least })
    at (inr none) (inl hit) = inl (record { first = n; low = omega arith; passes = hit; least = none })
    at (inr none) (inr not_n) = inr (λ k lt is. none_yet none not_n k lt (cases_eq k n) is)

-- a head that isn't above a task whose lock is free
record HeadBefore (locks : List ℕ) (tasks free : NumberSetView) (t : ℕ) : Type 0 where
  head : ℕ
  low : head ≤ t
  same : lock_at locks head ≡ lock_at locks t
  is : IsHead locks tasks free head

head_before : (locks : List ℕ) (tasks free : NumberSetView) (t : ℕ) → IsMember tasks t → IsMember free (lock_at locks t) → HeadBefore locks tasks free t
head_before locks tasks free t member open' = at (first_below passes (t + 1))
  where
    passes : ℕ → Bool
    passes k = has tasks k && eqb (lock_at locks k) (lock_at locks t)

    is_with : (k : ℕ) → passes k ≡ true → IsWith locks tasks (lock_at locks t) k
    is_with k hit =
        let parts : (has tasks k ≡ true) × (eqb (lock_at locks k) (lock_at locks t) ≡ true) = and_parts (has tasks k) (eqb (lock_at locks k) (lock_at locks t)) hit in
        record { is = parts.0; same = eqb-true (lock_at locks k) (lock_at locks t) parts.1 }

    made : (k : ℕ) → IsWith locks tasks (lock_at locks t) k → passes k ≡ true
    made k w = and_from (has tasks k) (eqb (lock_at locks k) (lock_at locks t)) w.is (eq-eqb (lock_at locks k) (lock_at locks t) w.same)

    at : FirstBelow passes (t + 1) ⊎ ((k : ℕ) → k < t + 1 → passes k ≡ true → ⊥) → HeadBefore locks tasks free t
    at (inr none) = absurd (none t (omega arith) (made t (record { is = member; same = refl })))
    at (inl found) =
        let w = is_with found.first found.passes in
        let low = found.low in
        record {
          head = found.first;
          low = omega arith;
          same = w.same;
          is = record {
            lowest = subst (λ l. IsLowest (IsWith locks tasks l) found.first) (sym w.same) (record { is = w; least = λ k lt also. found.least k lt (made k also) });
            unowned = ap (has free) w.same ∙ open';
          };
        }

pub first_head : (all : StartableTasksView) (heads : NumberSetView) (n : ℕ) → AreHeads all.locks all.tasks all.free heads → IsLowest (IsMember heads) n → IsLowest (IsUnowned all) n
first_head all heads n are low = record {
  is = let head = (are n).0 low.is in record { is = head.lowest.is.is; free = head.unowned };
  least = λ k lt unowned.
      let before = head_before all.locks all.tasks all.free k unowned.is unowned.free in
      let at_most = before.low in
      low.least before.head (omega arith) ((are before.head).1 before.is);
}

pub no_head : (all : StartableTasksView) (heads : NumberSetView) → AreHeads all.locks all.tasks all.free heads → IsNone (IsMember heads) → IsNone (IsUnowned all)
no_head all heads are none = record {
  none = λ k unowned.
      let before = head_before all.locks all.tasks all.free k unowned.is unowned.free in
      none.none before.head ((are before.head).1 before.is);
}

-- ---- the lowest head with another lock than this one

-- each lock has one head at most
one_head : (all : StartableTasksView) (heads : NumberSetView) (m n : ℕ) → AreHeads all.locks all.tasks all.free heads → IsMember heads m → IsMember heads n → lock_at all.locks m ≡ lock_at all.locks n → m < n → ⊥
one_head all heads m n are at there same lt =
    let first = (are m).0 at in
    let second = (are n).0 there in
    second.lowest.least m lt (record { is = first.lowest.is.is; same = same })

-- the first head has another lock
pub first_other : (all : StartableTasksView) (heads : NumberSetView) (lock n : ℕ) → AreHeads all.locks all.tasks all.free heads → IsLowest (IsMember heads) n → lock_at all.locks n ≢ lock → IsLowest (IsUnownedBut all lock) n
first_other all heads lock n are low ne =
    let first = first_head all heads n are low in
    record { is = record { unowned = first.is; other = ne }; least = λ k lt but. first.least k lt but.unowned }

-- a head that isn't the first is above it
head_above : (all : StartableTasksView) (heads : NumberSetView) (lock n k : ℕ) → AreHeads all.locks all.tasks all.free heads → IsLowest (IsMember heads) n → lock_at all.locks n ≡ lock → IsUnownedBut all lock k → (h : ℕ) × ((h ≤ k) × IsFrom (n + 1) (IsMember heads) h)
head_above all heads lock n k are low same but =
    let before = head_before all.locks all.tasks all.free k but.unowned.is but.unowned.free in
    let member = (are before.head).1 before.is in
    (before.head, (before.low, record { past = above before.head member (but_lock before.head before.same) (cases_lt before.head n) (cases_eq before.head n); such = member }))
  where
    but_lock : (h : ℕ) → lock_at all.locks h ≡ lock_at all.locks k → lock_at all.locks h ≡ lock → ⊥
    but_lock h e here = but.other (sym e ∙ here)

    above : (h : ℕ) → IsMember heads h → (lock_at all.locks h ≡ lock → ⊥) → (h < n) ⊎ (n ≤ h) → (h ≡ n) ⊎ (h ≡ n → ⊥) → n + 1 ≤ h
    above h member ne (inl lt) _ = absurd (low.least h lt member)
    above h member ne (inr le) (inl e) = absurd (ne (ap (lock_at all.locks) e ∙ same))
    above h member ne (inr le) (inr other) = omega (arith, le, other)

-- it has this lock, and the next has another
pub second_other : (all : StartableTasksView) (heads : NumberSetView) (lock n m : ℕ) → AreHeads all.locks all.tasks all.free heads → IsLowest (IsMember heads) n → lock_at all.locks n ≡ lock → IsLowest (IsFrom (n + 1) (IsMember heads)) m → IsLowest (IsUnownedBut all lock) m
second_other all heads lock n m are low same next = record {
  is = let head = (are m).0 next.is.such in record {
    unowned = record { is = head.lowest.is.is; free = head.unowned };
    other = λ e. one_head all heads n m are low.is next.is.such (same ∙ sym e) (let past = next.is.past in omega arith);
  };
  least = λ k lt but.
      let found = head_above all heads lock n k are low same but in
      let at_most = found.1.0 in
      next.least found.0 (omega arith) found.1.1;
}

-- it is the only one
pub no_second : (all : StartableTasksView) (heads : NumberSetView) (lock n : ℕ) → AreHeads all.locks all.tasks all.free heads → IsLowest (IsMember heads) n → lock_at all.locks n ≡ lock → IsNone (IsFrom (n + 1) (IsMember heads)) → IsNone (IsUnownedBut all lock)
no_second all heads lock n are low same none = record {
  none = λ k but. let found = head_above all heads lock n k are low same but in none.none found.0 found.1.1;
}

pub no_other : (all : StartableTasksView) (heads : NumberSetView) (lock : ℕ) → AreHeads all.locks all.tasks all.free heads → IsNone (IsMember heads) → IsNone (IsUnownedBut all lock)
no_other all heads lock are none = record { none = λ k but. (no_head all heads are none).none k but.unowned }

-- a head is a task of the order
pub head_within : (all : Inside) (n : ℕ) → HasHeads all → IsMember all.heads n → n < length all.order.locks
head_within all n has member = (stands_in all.order.locks all.places n ((has.heads n).0 member).lowest.is.is).within
