use Rattle.std.proofs.Common.{◌≡◌, ◌+◌, drop, get_or, refl, ap, ◌∙◌, arith}
use Rattle.std.specs.Prelude.{sum_by}
use Rattle.std.proofs.Math.ListN.{drop_of_length-le}
use Rattle.std.proofs.lemmas.List.{get_or_default}
use Rattle.planned_work.specs.Graphs.{actions_from}
use Rattle.planned_work.specs.Plans.{units_of_action}
use Rattle.planned_work.specs.declared.plans.PlannedAction.{PlannedAction}
use Rattle.planned_work.proofs.GraphSteps.{all_made, next_action, no_action, units_at}
use Rattle.planned_work.proofs.UnitPlaces.{byte_is}
use Rattle.planned_work.proofs.plan_graphs.push_actions.Goals as goal

pub loop-action-init : goal.loop-action-init
loop-action-init c = (refl, refl)

module _ (c : goal.After-from) where
  abbrev here : PlannedAction
  here = get_or c.args.actions.now c.loop-action.action-index no_action

  abbrev is : here ≡ get_or c.args.actions.now c.loop-action.action-index here
  is = get_or_default c.args.actions.now c.loop-action.action-index no_action here c.loop-action-test.true

  abbrev left : sum_by units_of_action (drop c.loop-action.action-index c.args.actions.now) ≡ units_of_action here + sum_by units_of_action (drop (c.loop-action.action-index + 1) c.args.actions.now)
  left = units_at c.args.actions.now c.loop-action.action-index here c.loop-action-test.true is

  abbrev units : here.items + c.from.result ≡ units_of_action here
  units = ap (λ n. here.items + n) (c.from.ensures ∙ byte_is here.fetch)

pub overflow_add-next : goal.overflow_add-next
overflow_add-next c = omega (arith, left c, units c, c.loop-action.invariant.1, c.requires)

pub overflow_add-next-in-loop-action : goal.overflow_add-next-in-loop-action
overflow_add-next-in-loop-action c = omega (arith, left c, units c, c.loop-action.invariant.1, c.requires)

pub loop-action-preserved : goal.loop-action-preserved
loop-action-preserved c =
    let so_far = c.loop-action.invariant.1 in (
      next_action c.args.task c.loop-action.next _ _ _ _ c.args.actions.now c.loop-action.action-index (here c) _ c.loop-action-test.true (is c) refl (units c) c.in_ok-push.ensures.items c.loop-action.invariant.0,
      omega (arith, left c, units c, so_far),
    )

pub returns-clause-made : goal.returns-clause-made
returns-clause-made c = all_made (actions_from c.args.task c.loop-action.next) _ _ c.args.actions.now c.loop-action.action-index c.loop-action-test.false refl c.loop-action.invariant.0

pub returns-clause-next : goal.returns-clause-next
returns-clause-next c =
    let none = ap (λ as'. sum_by units_of_action as') (drop_of_length-le c.args.actions.now c.loop-action-test.false) in
    omega (arith, none, c.loop-action.invariant.1)
