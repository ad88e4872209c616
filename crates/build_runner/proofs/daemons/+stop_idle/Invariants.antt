use Rattle.std.proofs.Common.{length}
use Rattle.build_runner.proofs.daemons.+stop_idle.Given as goal

-- each call leaves one idle daemon less to the next
abbrev pub decreases-stop_idle : goal.decreases-stop_idle
decreases-stop_idle g l = length l.pool.now.idle
