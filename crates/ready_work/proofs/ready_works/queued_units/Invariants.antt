use Rattle.std.proofs.Common.{◌≤◌}
use Rattle.ready_work.specs.Choices.{IsQueued}
use Rattle.ready_work.specs.NumberSetView.{room_of}
use Rattle.ready_work.specs.Sets.{IsSetBelow}
use Rattle.ready_work.proofs.ready_works.queued_units.Given as goal

-- the units below this one were looked at
abbrev pub invariant-loop-unit : goal.invariant-loop-unit
invariant-loop-unit l = IsSetBelow (IsQueued l.graph l.state) l.unit l.queued × (l.graph.units ≤ room_of l.queued)
