-- What a worker can do next, and where it has to wait.
use Rattle.std.specs.Prelude.{ℕ, ◌≡◌, ◌<◌, Bool, true, false, not, ◌&&◌, List, Option, None, Some, All, find, is_none}
use Rattle.std.specs.Prelude.{length, slice_get}
use Rattle.lock_journal.specs.Names.{GraphView, action_of, items_of, lock_with, StateView, holding_of, kept_from, mark_of, owner_of, can_lease}
use Rattle.lock_journal.specs.Names.{Retention, Retain, Release, ReleaseAndReacquire, LockId, WorkerId, UnitOf, has_ended, can_take_all, IsEnded}
use Rattle.ready_work.specs.Choices.{CanSkip, CanStart}
use Rattle.ready_work.specs.Lowest.{IsNone}
use Rattle.worker_choices.specs.declared.awaited.Awaited.{Awaited}
use Rattle.worker_choices.specs.declared.awaited.Awaited.TheVariants.{Work, Items, TakeUp}
use Rattle.worker_choices.specs.declared.stances.Stance.{Stance}
use Rattle.worker_choices.specs.declared.stances.Stance.TheVariants.{Sleeps}

-- an item waits to be claimed, and a lease is free for it
abbrev pub can_claim : WorkerId → StateView → Bool → Bool
can_claim w s queued = queued && can_lease s w

-- with a lease at hand the task could be started
pub record CanBegin (g : GraphView) (w : WorkerId) (s : StateView) (t : ℕ) : Type 0 where
  pub lease : can_lease s w ≡ true
  pub start : CanStart g s t

-- an idle worker can neither claim an item nor skip or start a task, nor have all tasks ended
pub record HasNothingToDo (g : GraphView) (w : WorkerId) (s : StateView) (queued : Bool) : Type 0 where
  pub claim : can_claim w s queued ≡ false
  pub skip : IsNone (CanSkip g s)
  pub start : IsNone (CanBegin g w s)
  pub goes_on : All IsEnded s.tasks → ⊥

-- the first item of an action that hasn't ended
abbrev pub first_open : GraphView → StateView → ℕ → Option ℕ
first_open g s a = find (λ u. not (has_ended (mark_of s (UnitOf u)))) (items_of g a)

-- what the retention takes again can be taken
abbrev pub can_take_again : Retention → LockId → WorkerId → StateView → Bool
can_take_again Retain l w s = can_lease s w
can_take_again Release l w s = true
can_take_again ReleaseAndReacquire l w s = can_lease s w && is_none (owner_of s l) && not (kept_from s w l)

-- all items of the action have ended, and the worker can have what it takes again
pub record CanGoOn (g : GraphView) (w : WorkerId) (s : StateView) (a : ℕ) : Type 0 where
  pub over : first_open g s a ≡ None
  pub free : can_take_again (action_of g a).retention (lock_with g a) w s ≡ true

-- a worker that is parked in the action can neither resume nor claim an item
pub record HasToWait (g : GraphView) (w : WorkerId) (s : StateView) (queued : Bool) (a : ℕ) : Type 0 where
  pub waits : CanGoOn g w s a → ⊥
  pub claim : can_claim w s queued ≡ false

-- the worker can have all locks that it has parked, and a lease
abbrev pub can_take_up : WorkerId → StateView → Bool
can_take_up w s = can_take_all s w (holding_of s w).parked

-- What a worker waits for isn't there, where an item waits to be claimed or none does.
abbrev pub Waits : GraphView → WorkerId → StateView → Bool → Awaited → Type 0
Waits g w s queued Work = HasNothingToDo g w s queued
Waits g w s queued (Items a) = a < length g.actions → HasToWait g w s queued a
Waits g w s queued TakeUp = can_take_up w s ≡ false

-- each worker below a number that sleeps until what it waits for comes still waits for it
abbrev pub StillWait : GraphView → StateView → Bool → List Stance → ℕ → Type 0
StillWait g s queued stances k = (w : ℕ) (a : Awaited) → w < k → slice_get stances w ≡ Some (Sleeps a) → Waits g (record { 0 = w }) s queued a
