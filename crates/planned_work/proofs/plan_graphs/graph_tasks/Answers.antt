use Rattle.std.proofs.Common.{◌≡◌, ◌<◌, ◌∙◌, length, arith}
use Rattle.planned_work.proofs.GraphSteps.{actions_left, next_row, row_is}
use Rattle.planned_work.proofs.plan_graphs.graph_tasks.Goals as goal

pub overflow_cast-actions : goal.overflow_cast-actions
overflow_cast-actions c =
    let left = actions_left c.args.tasks.now c.loop-number.number c.index-tasks-number.result c.loop-number-test.true c.index-tasks-number.is in
    let few = c.requires.few in
    let so_far = c.loop-number.invariant.1 in
    omega (arith, left, few, so_far, c.len-actions.ensures, c.index-tasks-number.result.actions.ok.0)

pub overflow_add-first_action : goal.overflow_add-first_action
overflow_add-first_action c =
    let left = actions_left c.args.tasks.now c.loop-number.number c.index-tasks-number.result c.loop-number-test.true c.index-tasks-number.is in
    let few = c.requires.few in
    let so_far = c.loop-number.invariant.1 in
    omega (arith, left, few, so_far, c.len-actions.ensures, c.index-tasks-number.result.actions.ok.0)

pub loop-number-preserved : goal.loop-number-preserved
loop-number-preserved c =
    let task = c.index-tasks-number in
    let names = c.index-after-number in
    let left = actions_left c.args.tasks.now c.loop-number.number task.result c.loop-number-test.true task.is in
    let long : c.len-actions.result ≡ length task.result.actions.items = c.len-actions.ensures ∙ task.result.actions.ok.0 in
    let named : c.loop-number.number < length c.args.after.now = (let low = c.loop-number-test.true in let same = c.requires.names in omega (arith, low, same)) in
    let row = row_is task.result names.result _ c.loop-number.first_action _ c.deref.ensures.value long in
    let so_far = c.loop-number.invariant.1 in (
      rw long (next_row c.loop-number.first_action _ _ _ c.args.tasks.now c.args.after.now c.loop-number.number task.result names.result _ c.loop-number-test.true task.is named names.is row c.in_ok-push.ensures.ok c.loop-number.invariant.0),
      omega (arith, left, so_far, long),
    )
