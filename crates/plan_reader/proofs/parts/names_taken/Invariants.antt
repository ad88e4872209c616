use Rattle.std.proofs.Common.{◌≡◌, ◌++◌, map}
use Rattle.std.specs.Vec.Iter.{into_iter_items}
use Rattle.plan_document.specs.View.{view}
use Rattle.plan_table.specs.Keys.{name_of}
use Rattle.plan_reader.proofs.parts.names_taken.Given as goal

abbrev pub invariant-loop-table : goal.invariant-loop-table
invariant-loop-table l = l.names.items ++ map (λ v. name_of (view v)) (into_iter_items l.table-iterator) ≡ map (λ v. name_of (view v)) l.fn.tables.items
