-- The tasks that can be started, by the index and the owned locks.
use Rattle.std.proofs.Common.{◌≡◌, ◌↔◌, ℕ, ◌<◌, Bool, true, false, cond, ◌&&◌, ◌||◌, Option, None, Some, get_or, length, refl, sym, ap, ◌∙◌, arith, ◌⊎◌, inl, inr}
use Rattle.std.specs.List.{list_any}
use Rattle.std.proofs.lemmas.Bool.{and_from, and_left, and_right, eq-eqb, ne_eqb, or_from, or_parts, true≢false}
use Rattle.std.proofs.lemmas.List.{get_or-map}
use Rattle.resource_lock.specs.GraphView.{GraphView, no_task, task_of}
use Rattle.resource_lock.specs.StateView.{StateView, all_owner, is_all, is_owned, is_taken, names_lock, owner_of}
use Rattle.resource_lock.specs.declared.ids.LockId.{LockId}
use Rattle.resource_lock.specs.declared.ids.WorkerId.{WorkerId}
use Rattle.ready_work.specs.Choices.{CanStart, IsFree, IsStartable}
use Rattle.ready_work.specs.Closed.{closed_lock}
use Rattle.ready_work.specs.LockOrderView.{lock_at}
use Rattle.ready_work.specs.Lowest.{IsLowest, IsNone}
use Rattle.ready_work.specs.NumberSetView.{NumberSetView, IsMember}
use Rattle.ready_work.specs.ReadyWork.{IsIndexOf}
use Rattle.ready_work.specs.Sets.{IsRightAt, NoNumber}
use Rattle.ready_work.specs.StartableTasksView.{IsUnowned, IsUnownedBut}
use Rattle.ready_work.specs.declared.ready_works.ReadyWork.{ReadyWork}

right : (P : ℕ → Type 0) (set : NumberSetView) (k : ℕ) → NoNumber k ⊎ IsRightAt P set k → IsRightAt P set k
right P set k (inl none) = absurd none
right P set k (inr is) = is

-- ---- which parts of a lock's conflicts are there

own_unowned : (s : StateView) (l : LockId) → is_taken s l ≡ false → (is_owned (owner_of s l) ≡ false) × (is_owned (all_owner s) ≡ false) × ((is_all s l && list_any is_owned s.owners) ≡ false)
own_unowned s l h =
    let parts = or_parts (is_owned (owner_of s l) || is_owned (all_owner s)) (is_all s l && list_any is_owned s.owners) h in
    let two = or_parts (is_owned (owner_of s l)) (is_owned (all_owner s)) parts.0 in
    (two.0, two.1, parts.1)

nobody : (o : Option WorkerId) → is_owned o ≡ false → o ≡ None
nobody None h = refl
nobody (Some v) h = absurd (true≢false h)

owner_free : (s : StateView) (l : LockId) → is_taken s l ≡ false → owner_of s l ≡ None
owner_free s l h = nobody (owner_of s l) (own_unowned s l h).0

all_unowned : (s : StateView) (l : LockId) → is_taken s l ≡ false → is_owned (all_owner s) ≡ false
all_unowned s l h = (own_unowned s l h).1

untaken : (s : StateView) (l : LockId) → owner_of s l ≡ None → all_owner s ≡ None → (is_all s l && list_any is_owned s.owners) ≡ false → is_taken s l ≡ false
untaken s l free all rest = or_from (is_owned (owner_of s l) || is_owned (all_owner s)) (is_all s l && list_any is_owned s.owners) (or_from (is_owned (owner_of s l)) (is_owned (all_owner s)) (ap is_owned free) (ap is_owned all)) rest

-- no lock is closed where none is owned, or there is no all-projects lock
closed_where : (any : Bool) (all : Option LockId) → cond any all None ≡ None → (l : LockId) → (names_lock all l && any) ≡ false
closed_where true None h l = refl
closed_where true (Some k) h l = absurd (some_none h)
  where
    some_none : Some k ≡ None → ⊥
    some_none e = cc
closed_where false all h l = and_right (names_lock all l) false refl

not_closed : (s : StateView) (l : LockId) → closed_lock s ≡ None → (is_all s l && list_any is_owned s.owners) ≡ false
not_closed s l h = closed_where (list_any is_owned s.owners) s.all h l

-- the closed lock is the all-projects lock, and somebody owns a lock
is_closed : (any : Bool) (all : Option LockId) (l : LockId) → cond any all None ≡ Some l → (any ≡ true) × (all ≡ Some l)
is_closed true all l h = (refl, h)
is_closed false all l h = absurd (none_some h)
  where
    none_some : None ≡ Some l → ⊥
    none_some e = cc

not_this : (s : StateView) (l k : LockId) → closed_lock s ≡ Some l → (k.0 ≡ l.0 → ⊥) → (is_all s k && list_any is_owned s.owners) ≡ false
not_this s l k h other = and_left (is_all s k) (list_any is_owned s.owners) (ap (λ all. names_lock all k) (is_closed (list_any is_owned s.owners) s.all l h).1 ∙ ne_eqb l.0 k.0 (λ e. other (sym e)))

another : (s : StateView) (l k : LockId) → closed_lock s ≡ Some l → is_taken s k ≡ false → k.0 ≡ l.0 → ⊥
another s l k h free same =
    let closed = is_closed (list_any is_owned s.owners) s.all l h in
    true≢false (sym (and_from (is_all s k) (list_any is_owned s.owners) (ap (λ all. names_lock all k) closed.1 ∙ eq-eqb l.0 k.0 (sym same)) closed.0) ∙ (own_unowned s k free).2)

module _ (g : GraphView) (s : StateView) (ready : ReadyWork) (is : IsIndexOf g s ready) where
  startable_at : (t : ℕ) → IsRightAt (IsStartable g s) ready.tasks.startable.tasks t
  startable_at t = right (IsStartable g s) ready.tasks.startable.tasks t (is.tasks.startable.each t)

  free_at : (l : ℕ) → IsRightAt (IsFree g s) ready.tasks.startable.free l
  free_at l = right (IsFree g s) ready.tasks.startable.free l (is.free.each l)

  lock_is : (t : ℕ) → t < length g.tasks → lock_at ready.tasks.startable.locks t ≡ (task_of g t).lock.0
  lock_is t lt = ap (λ locks. get_or locks t 0) is.made.task_locks ∙ get_or-map (λ task. task.lock.0) g.tasks t no_task 0 lt

  is_free : (t : ℕ) → t < length g.tasks → IsMember ready.tasks.startable.free (lock_at ready.tasks.startable.locks t) ↔ (owner_of s (task_of g t).lock ≡ None)
  is_free t lt = (
    λ member. ap (λ n. get_or s.owners n None) (sym (lock_is t lt)) ∙ ((free_at (lock_at ready.tasks.startable.locks t)).0 member).free,
    λ free. (free_at (lock_at ready.tasks.startable.locks t)).1 (record { within = let low = is.made.fits.locks_within t no_task lt in omega (arith, low, lock_is t lt); free = ap (λ n. get_or s.owners n None) (lock_is t lt) ∙ free }),
  )

  -- ---- while nobody owns the all-projects lock, and nobody owns another or there is no such lock

  can_start : all_owner s ≡ None → closed_lock s ≡ None → (t : ℕ) → IsUnowned ready.tasks.startable t → CanStart g s t
  can_start unowned_all open' t unowned =
      let p = (startable_at t).0 unowned.is in
      record { within = p.within; waits = p.waits; passed = p.passed; free = untaken s (task_of g t).lock ((is_free t p.within).0 unowned.free) unowned_all (not_closed s (task_of g t).lock open') }

  unowned_where : (t : ℕ) → CanStart g s t → IsUnowned ready.tasks.startable t
  unowned_where t p = record {
    is = (startable_at t).1 (record { within = p.within; waits = p.waits; passed = p.passed });
    free = (is_free t p.within).1 (owner_free s (task_of g t).lock p.free);
  }

  pub lowest_to_start : all_owner s ≡ None → closed_lock s ≡ None → (n : ℕ) → IsLowest (IsUnowned ready.tasks.startable) n → IsLowest (CanStart g s) n
  lowest_to_start unowned_all open' n low = record { is = can_start unowned_all open' n low.is; least = λ k lt p. low.least k lt (unowned_where k p) }

  pub none_to_start : IsNone (IsUnowned ready.tasks.startable) → IsNone (CanStart g s)
  none_to_start none = record { none = λ k p. none.none k (unowned_where k p) }

  -- ---- while somebody owns another lock than the all-projects lock

  can_start_but : all_owner s ≡ None → (l : LockId) → closed_lock s ≡ Some l → (t : ℕ) → IsUnownedBut ready.tasks.startable l.0 t → CanStart g s t
  can_start_but unowned_all l closed t but =
      let p = (startable_at t).0 but.unowned.is in
      record { within = p.within; waits = p.waits; passed = p.passed; free = untaken s (task_of g t).lock ((is_free t p.within).0 but.unowned.free) unowned_all (not_this s l (task_of g t).lock closed (λ e. but.other (lock_is t p.within ∙ e))) }

  unowned_but : (l : LockId) → closed_lock s ≡ Some l → (t : ℕ) → CanStart g s t → IsUnownedBut ready.tasks.startable l.0 t
  unowned_but l closed t p = record {
    unowned = unowned_where t p;
    other = λ e. another s l (task_of g t).lock closed p.free (sym (lock_is t p.within) ∙ e);
  }

  pub lowest_but : all_owner s ≡ None → (l : LockId) → closed_lock s ≡ Some l → (n : ℕ) → IsLowest (IsUnownedBut ready.tasks.startable l.0) n → IsLowest (CanStart g s) n
  lowest_but unowned_all l closed n low = record { is = can_start_but unowned_all l closed n low.is; least = λ k lt p. low.least k lt (unowned_but l closed k p) }

  pub none_but : (l : LockId) → closed_lock s ≡ Some l → IsNone (IsUnownedBut ready.tasks.startable l.0) → IsNone (CanStart g s)
  none_but l closed none = record { none = λ k p. none.none k (unowned_but l closed k p) }

  -- ---- while somebody owns the all-projects lock

  pub none_while_owned : is_owned (all_owner s) ≡ true → IsNone (CanStart g s)
  none_while_owned owned = record { none = λ k p. true≢false (sym owned ∙ all_unowned s (task_of g k).lock p.free) }
