use Rattle.std.proofs.Common.{◌≡◌, ◌++◌, map}
use Rattle.std.specs.Vec.Iter.{into_iter_items}
use Rattle.plan_document.specs.View.{view}
use Rattle.plan_table.specs.Values.{text_of}
use Rattle.plan_reader.proofs.profiles.texts_of.Given as goal

abbrev pub invariant-loop-value : goal.invariant-loop-value
invariant-loop-value l = l.texts.items ++ map (λ v. text_of (view v)) (into_iter_items l.value-iterator) ≡ map (λ v. text_of (view v)) l.fn.values.items
