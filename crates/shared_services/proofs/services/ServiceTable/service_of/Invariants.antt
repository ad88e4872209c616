use Rattle.std.proofs.Common.{◌≡◌, ◌≤◌}
use Rattle.shared_services.specs.Services.{first_lock}
use Rattle.shared_services.proofs.services.ServiceTable.service_of.Given as goal

-- the lock is none of the services so far
abbrev pub invariant-loop-service : goal.invariant-loop-service
invariant-loop-service l = (l.end ≡ first_lock l.self l.service) × (l.end ≤ l.lock.0)
