use Rattle.resource_lock.specs.Shape.{BelongsTo}
use Rattle.ready_work.specs.ReadyWork.{IsIndexOf}
use Rattle.state_tests.proofs.all_projects_tests.starts_by_owners.Given as goal

-- the index is that of the state
abbrev pub invariant-loop-takes : goal.invariant-loop-takes
invariant-loop-takes l = BelongsTo l.graph.value l.state × IsIndexOf l.graph.value l.state l.ready
