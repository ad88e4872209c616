use Rattle.std.proofs.Common.{◌≡◌, List, map, subst}
use Rattle.std.specs.Prelude.{OnOk}
use Rattle.plan_reader.specs.PlanView.{plan_action_view}
use Rattle.plan_reader.specs.Units.{PlannedUnit, unit_view}
use Rattle.plan_reader.proofs.UnitLists.{behind_fetch}
use Rattle.plan_reader.proofs.units.add_action.Goals as goal

pub returns : goal.returns
returns c =
    subst (λ (us : List PlannedUnit). OnOk c.add_items.result (map unit_view c.add_items.new.units.items ≡ us))
    (behind_fetch (map unit_view c.args.units.now.items) (map unit_view c.add_fetch.new.units.items) (plan_action_view c.args.action.now).fetch c.args.action.now.items.items c.deref.result.now c.in_ok-add_fetch.ensures c.deref.ensures.value) c.add_items.ensures
