use Rattle.ready_work.specs.Rank.{lists_of}
use Rattle.ready_work.specs.DependentLists.{ListsDependents}
use Rattle.ready_work.proofs.dependent_lists.dependents_of.Given as goal

abbrev pub invariant-loop-task : goal.invariant-loop-task
invariant-loop-task l = ListsDependents (lists_of l.rows) l.task (lists_of l.dependents.items)
