use Rattle.std.proofs.Common.{◌≤◌}
use Rattle.ready_work.specs.NumberSetView.{room_of}
use Rattle.state_tests.proofs.ready_work_tests.tells_its_lowest.Given as goal

-- there is room for all
abbrev pub invariant-loop-number : goal.invariant-loop-number
invariant-loop-number l = l.len ≤ room_of l.set
