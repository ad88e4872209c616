use Rattle.std.proofs.Common.{map}
use Rattle.resource_lock.specs.GraphView.{GraphTaskView}
use Rattle.ready_work.specs.DependentLists.{ListsDependents}
use Rattle.ready_work.proofs.dependents.linked_dependents.Given as goal

abbrev pub invariant-loop-task : goal.invariant-loop-task
invariant-loop-task l = ListsDependents (map (λ (t : GraphTaskView). t.after) l.graph.tasks) l.task l.dependents
