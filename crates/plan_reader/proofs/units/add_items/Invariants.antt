use Rattle.std.proofs.Common.{◌≡◌, ◌++◌, map, take}
use Rattle.plan_reader.specs.PlanView.{work_view}
use Rattle.plan_reader.specs.Units.{item_unit, unit_view}
use Rattle.plan_reader.proofs.units.add_items.Given as goal

abbrev pub invariant-loop-work : goal.invariant-loop-work
invariant-loop-work l =
    map unit_view l.units.items ≡ map unit_view l.initial.units.items ++ map (λ w. item_unit (work_view w)) (take l.work-index l.items)
