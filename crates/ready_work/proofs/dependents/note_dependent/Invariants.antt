use Rattle.std.proofs.Common.{take}
use Rattle.ready_work.specs.DependentLists.{AddsDependent}
use Rattle.ready_work.proofs.dependents.note_dependent.Given as goal

abbrev pub invariant-loop-name : goal.invariant-loop-name
invariant-loop-name l = AddsDependent l.initial.dependents l.dependents (take l.name-index l.names) l.task
