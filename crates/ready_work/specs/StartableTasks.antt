-- What the fields of a `StartableTasks` stand for, and what holds of them.
use Rattle.std.specs.Prelude.{ℕ, ◌≤◌, List, length}
use Rattle.ready_work.specs.LockOrderView.{lock_at, place_of, IsPlace}
use Rattle.ready_work.specs.Lowest.{IsLowest}
use Rattle.ready_work.specs.NumberSetView.{NumberSetView, has, room_of, set_where, IsMember}
use Rattle.ready_work.specs.Sets.{IsRightAt}
use Rattle.ready_work.specs.StartableTasksView.{StartableTasksView, IsWith}
use Rattle.ready_work.specs.declared.startable_tasks.StartableTasks.TheInside.{Inside}

-- the tasks whose places are members
abbrev pub tasks_at : List ℕ → NumberSetView → NumberSetView
tasks_at locks places = set_where (λ t. has places (place_of locks t)) (length locks)

abbrev pub startable_tasks_view : Inside → StartableTasksView
startable_tasks_view all = record {
  locks = all.order.locks;
  tasks = tasks_at all.order.locks all.places;
  free = set_where (has all.free) all.order.lock_count;
}

-- the lowest of the tasks with its lock, which is free
pub record IsHead (locks : List ℕ) (tasks free : NumberSetView) (t : ℕ) : Type 0 where
  pub lowest : IsLowest (IsWith locks tasks (lock_at locks t)) t
  pub unowned : IsMember free (lock_at locks t)

-- the heads of the tasks and the free locks
abbrev pub AreHeads : List ℕ → NumberSetView → NumberSetView → NumberSetView → Type 0
AreHeads locks tasks free heads = (t : ℕ) → IsRightAt (IsHead locks tasks free) heads t

-- The members of `places` are places of tasks, and the heads are those of the tasks and the free locks.
pub record HasHeads (all : Inside) : Type 0 where
  pub places_room : length all.order.locks ≤ room_of all.places
  pub free_room : all.order.lock_count ≤ room_of all.free
  pub heads_room : length all.order.locks ≤ room_of all.heads
  pub placed : (p : ℕ) → IsMember all.places p → IsPlace all.order.locks p
  pub heads : AreHeads all.order.locks (startable_tasks_view all).tasks (startable_tasks_view all).free all.heads
