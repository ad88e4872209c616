use Rattle.std.proofs.Common.{◌≡◌, ◌+◌, length, is_some, map, refl, ap, ◌∙◌, arith}
use mir.Val.{bool_byte}
use Rattle.std.proofs.Math.ListN.{drop_of_length-le}
use Rattle.plan_reader.specs.PlanView.{plan_action_view}
use Rattle.plan_reader.specs.Graph.{actions_from, units_in_all}
use Rattle.plan_reader.proofs.GraphSteps.{units_at, next_action, all_made}
use Rattle.plan_reader.proofs.graphs.push_actions.Goals as goal

pub loop-action-init : goal.loop-action-init
loop-action-init c = (refl, refl)

pub overflow_cast-items : goal.overflow_cast-items
overflow_cast-items c =
    let left = units_at c.args.actions.now c.loop-action.action-index c.action-item.result c.loop-action-test.true c.action-item.is in
    omega (arith, left, c.loop-action.invariant.1, c.requires, c.len-items.ensures, c.action-item.result.items.ok.0)

pub overflow_add-next : goal.overflow_add-next
overflow_add-next c =
    let left = units_at c.args.actions.now c.loop-action.action-index c.action-item.result c.loop-action-test.true c.action-item.is in
    let fetches : c.from.result ≡ bool_byte (is_some c.action-item.result.fetch) = c.from.ensures ∙ ap bool_byte c.is_some-fetch.ensures in
    omega (arith, left, fetches, c.loop-action.invariant.1, c.requires, c.len-items.ensures, c.action-item.result.items.ok.0)

pub overflow_add-next-in-loop-action : goal.overflow_add-next-in-loop-action
overflow_add-next-in-loop-action c =
    let left = units_at c.args.actions.now c.loop-action.action-index c.action-item.result c.loop-action-test.true c.action-item.is in
    let fetches : c.from.result ≡ bool_byte (is_some c.action-item.result.fetch) = c.from.ensures ∙ ap bool_byte c.is_some-fetch.ensures in
    omega (arith, left, fetches, c.loop-action.invariant.1, c.requires, c.len-items.ensures, c.action-item.result.items.ok.0)

pub loop-action-preserved : goal.loop-action-preserved
loop-action-preserved c =
    let left = units_at c.args.actions.now c.loop-action.action-index c.action-item.result c.loop-action-test.true c.action-item.is in
    let items : c.len-items.result ≡ length c.action-item.result.items.items = c.len-items.ensures ∙ c.action-item.result.items.ok.0 in
    let fetches : c.from.result ≡ bool_byte (is_some c.action-item.result.fetch) = c.from.ensures ∙ ap bool_byte c.is_some-fetch.ensures in
    let so_far = c.loop-action.invariant.1 in (
      next_action c.args.task c.loop-action.next _ _ _ _ c.args.actions.now c.loop-action.action-index c.action-item.result _ c.loop-action-test.true c.action-item.is
          (λ i. record { task = c.args.task; retention = c.action-item.result.retention; fetch = c.is_some-fetch.ensures i; first_unit = c.loop-action.next; items = items i })
          (λ i. items i + fetches i) c.in_ok-push.ensures.items c.loop-action.invariant.0,
      omega (arith, left, items, fetches, so_far),
    )

pub returns-clause-made : goal.returns-clause-made
returns-clause-made c = all_made (λ as'. actions_from c.args.task c.loop-action.next (map plan_action_view as')) _ _ c.args.actions.now c.loop-action.action-index c.loop-action-test.false refl c.loop-action.invariant.0

pub returns-clause-next : goal.returns-clause-next
returns-clause-next c =
    let none = ap (λ as'. units_in_all (map plan_action_view as')) (drop_of_length-le c.args.actions.now c.loop-action-test.false) in
    omega (arith, none, c.loop-action.invariant.1)
