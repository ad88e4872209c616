-- What holds of every state that is reached.
use Rattle.std.specs.Prelude.{◌≡◌, ◌≤◌, true, false}
use Rattle.resource_lock.specs.StateView.{StateView, holding_of, owns, is_all, leases_out, has_parked, each_once, IsLockOf}
use Rattle.resource_lock.specs.declared.ids.LockId.{LockId}
use Rattle.resource_lock.specs.declared.ids.WorkerId.{WorkerId}

-- where a worker owns the all-projects lock, no other worker owns a lock
abbrev pub AllAlone : StateView → Type 0
AllAlone s = (v w : WorkerId) (l k : LockId) → is_all s l ≡ true → owns s v l ≡ true → owns s w k ≡ true → v.0 ≡ w.0

-- At most max leases are out. Where a worker owns the all-projects lock, no other worker owns a lock. No worker owns a lock that it has
-- parked, and no blocked worker has a lease.
-- No worker has parked a lock twice, and none but a lock of the state: undoing a change rests on these two. (That a lock
-- has at most one owner is the form of the state.)
pub record Good (s : StateView) : Type 0 where
  pub few_leases : leases_out s ≤ s.max_leases
  pub all_alone : AllAlone s
  pub parked_not_owned : (w : WorkerId) (l : LockId) → owns s w l ≡ true → has_parked s w l ≡ false
  pub parked_once : (w : WorkerId) → each_once (holding_of s w).parked ≡ true
  pub parked_locks : (w : WorkerId) (l : LockId) → has_parked s w l ≡ true → IsLockOf s l
  pub blocked_no_lease : (w : WorkerId) → (holding_of s w).blocked ≡ true → (holding_of s w).lease ≡ false
