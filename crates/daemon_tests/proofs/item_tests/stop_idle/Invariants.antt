use Rattle.std.proofs.Common.{◌≡◌, length}
use Rattle.daemon_tests.proofs.item_tests.stop_idle.Given as goal

-- nothing was sent
abbrev pub invariant-loop-link : goal.invariant-loop-link
invariant-loop-link g l = g.D.Desk.sends l.desk ≡ g.D.Desk.sends l.initial.desk

-- each turn stops one
abbrev pub decreases-loop-link : goal.decreases-loop-link
decreases-loop-link g l = length l.pool.idle
