-- What trying to take a lock or a lease answers and leaves.
use Rattle.std.specs.Prelude.{nat_lt, Bool, not, ◌&&◌, ◌||◌, is_none, if◌then◌else◌}
use Rattle.resource_lock.specs.StateView.{StateView, holding_of, owner_of, kept_from, leases_out}
use Rattle.resource_lock.specs.Change.{make}
use Rattle.resource_lock.specs.declared.ids.LockId.{LockId}
use Rattle.resource_lock.specs.declared.ids.WorkerId.{WorkerId}
use Rattle.resource_lock.specs.declared.changes.Change.TheVariants.{Lock, Take}

-- false exactly where the worker is kept from the lock
abbrev pub can_own : StateView → WorkerId → LockId → Bool
can_own s w l = not (kept_from s w l)

-- the lock is taken where nobody owns it and the worker isn't kept from it
abbrev pub locked : StateView → WorkerId → LockId → StateView
locked s w l = if is_none (owner_of s l) && not (kept_from s w l) then make s w (Lock l) else s

-- false exactly where the worker has no lease and as many as may be are out
abbrev pub can_lease : StateView → WorkerId → Bool
can_lease s w = (holding_of s w).lease || nat_lt (leases_out s) s.max_leases

-- a lease is taken where the worker has none and fewer than may be are out
abbrev pub leased : StateView → WorkerId → StateView
leased s w = if not (holding_of s w).lease && nat_lt (leases_out s) s.max_leases then make s w Take else s
