-- A worker that waits for the items of an action.
use Rattle.std.specs.Prelude.{ℕ}
use Rattle.resource_lock.specs.declared.ids.WorkerId.{WorkerId}

-- the worker, and the action by its number
pub record ParkedView : Type 0 where
  pub worker : WorkerId
  pub action : ℕ
