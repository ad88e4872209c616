use Rattle.ready_work.specs.Choices.{IsQueued}
use Rattle.ready_work.specs.Lowest.{NoneBelow}
use Rattle.ready_work.proofs.ready_works.look_for_queued.Given as goal

-- no unit below this one is queued
abbrev pub invariant-loop-unit : goal.invariant-loop-unit
invariant-loop-unit l = NoneBelow (IsQueued l.graph l.state) l.unit
