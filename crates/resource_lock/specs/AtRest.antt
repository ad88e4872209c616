-- States in which nobody has anything.
use Rattle.std.specs.Prelude.{◌≡◌, ◌≢◌, None}
use Rattle.resource_lock.specs.StateView.{StateView, empty_holding, holding_of, mark_of, owner_of}
use Rattle.resource_lock.specs.declared.ids.LockId.{LockId}
use Rattle.resource_lock.specs.declared.ids.WorkerId.{WorkerId}
use Rattle.resource_lock.specs.declared.marks.Mark.TheVariants.{Running}
use Rattle.resource_lock.specs.declared.marks.MarkId.{MarkId}

-- nothing is owned, leased, parked, blocked or running
pub record IsAtRest (s : StateView) : Type 0 where
  pub owners : (l : LockId) → owner_of s l ≡ None
  pub holdings : (w : WorkerId) → holding_of s w ≡ empty_holding
  pub marks : (w : WorkerId) (m : MarkId) → mark_of s m ≢ Running w
