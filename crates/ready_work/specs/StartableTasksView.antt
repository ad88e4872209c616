-- The startable tasks, as contracts see them.
use Rattle.std.specs.Prelude.{ℕ, ◌≡◌, ◌≢◌, Bool, List}
use Rattle.ready_work.specs.LockOrderView.{lock_at}
use Rattle.ready_work.specs.NumberSetView.{NumberSetView, has, room_of, IsMember}
use Rattle.ready_work.specs.Sets.{SameNumbers}

-- the lock of each task of the graph, the startable tasks, and the locks that nobody owns
pub record StartableTasksView : Type 0 where
  pub locks : List ℕ
  pub tasks : NumberSetView
  pub free : NumberSetView

-- a task of those with the lock
pub record IsWith (locks : List ℕ) (tasks : NumberSetView) (lock t : ℕ) : Type 0 where
  pub is : IsMember tasks t
  pub same : lock_at locks t ≡ lock

-- a startable task whose lock nobody owns
pub record IsUnowned (all : StartableTasksView) (t : ℕ) : Type 0 where
  pub is : IsMember all.tasks t
  pub free : IsMember all.free (lock_at all.locks t)

-- one with another lock than this one
pub record IsUnownedBut (all : StartableTasksView) (lock t : ℕ) : Type 0 where
  pub unowned : IsUnowned all t
  pub other : lock_at all.locks t ≢ lock

-- The task is one of the startable tasks, or isn't, and all else is as it was.
pub record PutsTask (old new : StartableTasksView) (task : ℕ) (is_startable : Bool) : Type 0 where
  pub locks : new.locks ≡ old.locks
  pub free : SameNumbers old.free new.free
  pub room : room_of new.tasks ≡ room_of old.tasks
  pub put : has new.tasks task ≡ is_startable
  pub others : (t : ℕ) → t ≢ task → has new.tasks t ≡ has old.tasks t
