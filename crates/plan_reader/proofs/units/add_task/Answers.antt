use Rattle.std.proofs.Common.{◌++◌, map, ap, ◌∙◌, arith}
use Rattle.plan_reader.specs.PlanView.{plan_action_view}
use Rattle.plan_reader.specs.Units.{action_units, unit_view}
use Rattle.plan_reader.proofs.UnitLists.{all_parts}
use Rattle.plan_reader.proofs.units.add_task.Goals as goal

pub returns : goal.returns
returns c =
    let actions = c.deref-action-items.result.now in
    c.loop-action.invariant
    ∙ ap (λ us. map unit_view c.args.units.now.items ++ us) (all_parts action_units plan_action_view actions _ c.loop-action.action-index (omega arith) (ap (map plan_action_view) c.deref-action-items.ensures.value))
