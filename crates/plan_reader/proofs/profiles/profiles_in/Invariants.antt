use Rattle.std.proofs.Common.{◌≡◌, ◌++◌, true, map}
use Rattle.std.specs.List.{list_all}
use Rattle.std.specs.Vec.Iter.{into_iter_items}
use Rattle.plan_document.specs.View.{view}
use Rattle.plan_table.specs.Keys.{heap_of}
use Rattle.plan_reader.specs.Planned.{requirements_from}
use Rattle.plan_reader.specs.Rows.{is_heap}
use Rattle.plan_reader.proofs.profiles.profiles_in.Given as goal

abbrev pub invariant-loop-value : goal.invariant-loop-value
invariant-loop-value l =
    (l.profiles.items ++ map (λ v. requirements_from (view v)) (into_iter_items l.value-iterator) ≡ map (λ v. requirements_from (view v)) l.fn.values.items)
    × (list_all (λ v. is_heap (heap_of (view v))) (into_iter_items l.value-iterator) ≡ true)
