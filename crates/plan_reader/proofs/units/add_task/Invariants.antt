use Rattle.std.proofs.Common.{◌≡◌, ◌++◌, map, take}
use Rattle.std.specs.List.{flat_map}
use Rattle.plan_reader.specs.PlanView.{plan_action_view}
use Rattle.plan_reader.specs.Units.{action_units, unit_view}
use Rattle.plan_reader.proofs.units.add_task.Given as goal

abbrev pub invariant-loop-action : goal.invariant-loop-action
invariant-loop-action l =
    map unit_view l.units.items ≡ map unit_view l.initial.units.items ++ flat_map (λ a. action_units (plan_action_view a)) (take l.action-index l.action-items)
