-- no more closings than places
use Rattle.std.proofs.Common.{◌≤◌}
use Rattle.planned_slot_tests.proofs.rows.closings.Given as goal

abbrev pub invariant-loop-place : goal.invariant-loop-place
invariant-loop-place l = l.count ≤ l.place
