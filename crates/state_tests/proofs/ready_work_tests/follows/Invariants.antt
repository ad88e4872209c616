use Rattle.resource_lock.specs.Shape.{BelongsTo}
use Rattle.ready_work.specs.ReadyWork.{IsIndexOf}
use Rattle.state_tests.proofs.ready_work_tests.follows.Given as goal

-- the index is that of the state
abbrev pub invariant-loop-id : goal.invariant-loop-id
invariant-loop-id l = BelongsTo l.graph.value l.state × IsIndexOf l.graph.value l.state l.ready
