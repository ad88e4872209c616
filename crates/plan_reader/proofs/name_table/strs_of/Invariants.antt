use Rattle.std.proofs.Common.{◌≡◌, take}
use Rattle.plan_reader.specs.NameNumbers.{texts}
use Rattle.plan_reader.proofs.name_table.strs_of.Given as goal

abbrev pub invariant-loop-name : goal.invariant-loop-name
invariant-loop-name l = texts l.strs.items ≡ take l.name-index l.names
