use Rattle.std.proofs.Common.{take}
use Rattle.ready_work.specs.Rank.{lists_of}
use Rattle.ready_work.specs.DependentLists.{AddsDependent}
use Rattle.ready_work.proofs.dependent_lists.add_dependent.Given as goal

abbrev pub invariant-loop-name : goal.invariant-loop-name
invariant-loop-name l = AddsDependent (lists_of l.initial.dependents.items) (lists_of l.dependents.items) (take l.name-index l.names) l.task
