-- the pass is still of the same service
use Rattle.std.proofs.Common.{◌≡◌}
use Rattle.coordination_tests.proofs.giving_tests.take_turns.Given as goal

abbrev pub invariant-loop-turn : goal.invariant-loop-turn
invariant-loop-turn g l = l.pass.service ≡ l.initial.pass.service
