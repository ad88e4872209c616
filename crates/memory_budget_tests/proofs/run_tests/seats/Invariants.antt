use Rattle.std.proofs.Common.{◌≡◌, ◌+◌, vec_len}
use Rattle.memory_budget_tests.specs.declared.run_tests.TheConstants.{WORKERS}
use Rattle.memory_budget_tests.proofs.run_tests.seats.Given as goal

-- each seat so far has a part
abbrev pub invariant-loop-first : goal.invariant-loop-first
invariant-loop-first g l = (l.tallies.parts + vec_len l.seats ≡ WORKERS + 1) × (vec_len l.seats ≡ l.first)
