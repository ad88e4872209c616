use Rattle.std.proofs.Common.{◌≡◌, ◌≤◌, slice_range}
use Rattle.std.specs.List.{list_any}
use Rattle.resource_lock.specs.StateView.{is_owner}
use Rattle.shared_services.proofs.services.owns_one_of.Given as goal

-- what was found in the locks that were looked at
abbrev pub invariant-loop-lock : goal.invariant-loop-lock
invariant-loop-lock l = (l.first ≤ l.lock) × (l.found ≡ list_any (λ o. is_owner o l.worker) (slice_range l.state.owners l.lock l.end))
