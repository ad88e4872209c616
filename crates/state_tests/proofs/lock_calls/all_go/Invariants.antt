use Rattle.std.proofs.Common.{◌≡◌, length}
use Rattle.state_tests.proofs.lock_calls.all_go.Given as goal

-- the state has as many workers and locks as before
abbrev pub invariant-loop-worker : goal.invariant-loop-worker
invariant-loop-worker l = (length l.state.holdings ≡ l.workers) × (length l.state.owners ≡ l.locks)
