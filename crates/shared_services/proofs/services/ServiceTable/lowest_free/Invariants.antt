use Rattle.std.proofs.Common.{◌≢◌, ◌<◌, ◌≤◌, None}
use Rattle.lock_journal.specs.Names.{owner_of, LockId}
use Rattle.shared_services.proofs.services.ServiceTable.lowest_free.Given as goal

-- the locks so far have owners
abbrev pub invariant-loop-lock : goal.invariant-loop-lock
invariant-loop-lock l = (k : LockId) → l.first ≤ k.0 → k.0 < l.lock → owner_of l.state k ≢ None
