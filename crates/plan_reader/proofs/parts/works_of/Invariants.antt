use Rattle.std.proofs.Common.{◌≡◌, ◌++◌, map}
use Rattle.std.specs.Vec.Iter.{into_iter_items}
use Rattle.plan_document.specs.View.{view}
use Rattle.plan_reader.specs.PlanView.{work_view}
use Rattle.plan_reader.specs.Planned.{work_of}
use Rattle.plan_reader.specs.Taken.{known_names}
use Rattle.plan_reader.proofs.parts.works_of.Given as goal

abbrev pub invariant-loop-item : goal.invariant-loop-item
invariant-loop-item l =
    map work_view l.works.items ++ map (λ v. work_of (known_names l.known) l.known.profiles.now (view v)) (into_iter_items l.item-iterator)
    ≡ map (λ v. work_of (known_names l.known) l.known.profiles.now (view v)) l.fn.items.items
