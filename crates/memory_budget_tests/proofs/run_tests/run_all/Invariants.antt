use Rattle.std.proofs.Common.{◌≡◌, ◌+◌, vec_len}
use Rattle.memory_budget_tests.specs.declared.run_tests.TheConstants.{WORKERS}
use Rattle.memory_budget_tests.proofs.run_tests.run_all.Given as goal

-- each seat that isn't taken apart yet has a part
abbrev pub invariant-loop-seat : goal.invariant-loop-seat
invariant-loop-seat g l = l.tallies.parts + vec_len l.seats ≡ WORKERS + 1

-- each turn takes one seat
abbrev pub decreases-loop-seat : goal.decreases-loop-seat
decreases-loop-seat g l = vec_len l.seats
