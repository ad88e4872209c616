-- Who is kept from a lock, by the locks that conflict with it.
use Rattle.std.specs.Prelude.{◌≡◌, true}
use Rattle.resource_lock.specs.StateView.{StateView, conflict, is_other, is_owned, owner_of}
use Rattle.resource_lock.specs.declared.ids.LockId.{LockId}
use Rattle.resource_lock.specs.declared.ids.WorkerId.{WorkerId}

-- another worker owns a lock that conflicts with it
pub record IsKeptFrom (s : StateView) (w : WorkerId) (l : LockId) : Type 0 where
  pub lock : LockId
  pub conflicts : conflict s lock l ≡ true
  pub owner : is_other (owner_of s lock) w ≡ true

-- somebody owns a lock that conflicts with it
pub record IsTaken (s : StateView) (l : LockId) : Type 0 where
  pub lock : LockId
  pub conflicts : conflict s lock l ≡ true
  pub owner : is_owned (owner_of s lock) ≡ true
