-- the pass is still of the same service
use Rattle.std.proofs.Common.{◌≡◌}
use Rattle.planned_slot_tests.proofs.plays.waits.Given as goal

abbrev pub invariant-loop-way : goal.invariant-loop-way
invariant-loop-way l = l.pass.service ≡ l.initial.pass.service
