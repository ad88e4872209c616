use Rattle.std.proofs.Common.{length}
use Rattle.memory_budget_tests.proofs.pool_tests.stop_idle.Given as goal

-- each turn stops one
abbrev pub decreases-loop-link : goal.decreases-loop-link
decreases-loop-link g l = length l.pool.pool.idle
