-- the passes are still of the same service
use Rattle.std.proofs.Common.{◌≡◌}
use Rattle.planned_slot_tests.proofs.plays.take_turns.Given as goal

abbrev pub invariant-loop : goal.invariant-loop
invariant-loop l = (l.first.service ≡ l.initial.first.service) × (l.second.service ≡ l.initial.second.service)
