use Rattle.std.proofs.Common.{◌≡◌, map, take}
use Rattle.std.specs.List.{flat_map}
use Rattle.plan_reader.specs.PlanView.{plan_task_view}
use Rattle.plan_reader.specs.Units.{task_units, unit_view}
use Rattle.plan_reader.proofs.units.units_of.Given as goal

abbrev pub invariant-loop-task : goal.invariant-loop-task
invariant-loop-task l =
    map unit_view l.units.items ≡ flat_map (λ t. task_units (plan_task_view t)) (take l.task-index l.task-items)
