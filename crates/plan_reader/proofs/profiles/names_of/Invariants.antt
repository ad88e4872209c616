use Rattle.std.proofs.Common.{◌≡◌, map, take}
use Rattle.plan_document.specs.View.{view}
use Rattle.plan_table.specs.Keys.{name_of}
use Rattle.plan_reader.proofs.profiles.names_of.Given as goal

abbrev pub invariant-loop-value : goal.invariant-loop-value
invariant-loop-value l = l.names.items ≡ map (λ v. name_of (view v)) (take l.value-index l.values)
