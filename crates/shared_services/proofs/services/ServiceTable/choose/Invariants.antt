use Rattle.std.proofs.Common.{ℕ, ◌<◌, get_or}
use Rattle.shared_services.specs.Services.{IsLowestFree, no_lock}
use Rattle.shared_services.proofs.services.ServiceTable.choose.Given as goal

-- the locks of the services so far
abbrev pub invariant-loop-place : goal.invariant-loop-place
invariant-loop-place l = (i : ℕ) → i < l.place → IsLowestFree l.self l.state (get_or l.asked i 0) (get_or l.chosen i no_lock)
