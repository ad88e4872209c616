use Rattle.std.proofs.Common.{◌≡◌}
use Rattle.daemon_tests.proofs.item_tests.add_each.Given as goal

-- the pass is the service's
abbrev pub invariant-loop-heap_mb : goal.invariant-loop-heap_mb
invariant-loop-heap_mb g l = l.seat.pass.service ≡ l.seat.service.now.service
