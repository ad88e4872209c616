use Rattle.std.proofs.Common.{◌≤◌, ◌+◌}
use Rattle.budgeted_daemons.specs.declared.TheConstants.{WORKERS}
use Rattle.budgeted_daemons.proofs.split_tallies.Given as goal

-- a part is left for each worker to come, and one more
abbrev pub invariant-loop-worker : goal.invariant-loop-worker
invariant-loop-worker g l = WORKERS + 1 ≤ l.all.parts + l._worker
