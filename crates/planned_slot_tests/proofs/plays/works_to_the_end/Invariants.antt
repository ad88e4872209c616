-- the pass is still of the same service
use Rattle.std.proofs.Common.{◌≡◌}
use Rattle.planned_slot_tests.proofs.plays.works_to_the_end.Given as goal

abbrev pub invariant-loop : goal.invariant-loop
invariant-loop l = l.pass.service ≡ l.initial.pass.service
