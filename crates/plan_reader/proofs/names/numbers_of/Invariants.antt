use Rattle.std.proofs.Common.{◌≡◌, false, not, map, take}
use Rattle.std.specs.List.{list_any}
use Rattle.plan_document.specs.View.{view}
use Rattle.plan_table.specs.Values.{text_of}
use Rattle.plan_reader.specs.NameNumbers.{has_name, number_of}
use Rattle.plan_reader.specs.Names.{once, AreMarked}
use Rattle.plan_reader.proofs.names.numbers_of.Given as goal

abbrev pub invariant-loop-value : goal.invariant-loop-value
invariant-loop-value l =
    (l.numbers.items ≡ once (map (λ v. number_of l.names (text_of (view v))) (take l.value-index l.values)))
    × ((list_any (λ v. not (has_name l.names (text_of (view v)))) (take l.value-index l.values) ≡ false)
    × AreMarked l.marks l.mark l.numbers.items)
