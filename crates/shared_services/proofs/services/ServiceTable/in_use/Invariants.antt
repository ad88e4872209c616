use Rattle.std.proofs.Common.{◌≡◌, ◌≤◌, slice_range}
use Rattle.shared_services.specs.Services.{first_lock, users_in}
use Rattle.shared_services.proofs.services.ServiceTable.in_use.Given as goal

-- the workers that own one of the locks that were looked at
abbrev pub invariant-loop-lock : goal.invariant-loop-lock
invariant-loop-lock l = (first_lock l.self l.service ≤ l.lock) × (l.count ≡ users_in (slice_range l.state.owners l.lock l.end))
