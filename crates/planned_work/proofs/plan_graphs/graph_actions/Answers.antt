use Rattle.std.proofs.Common.{arith}
use Rattle.planned_work.proofs.GraphSteps.{next_actions, units_left}
use Rattle.planned_work.proofs.plan_graphs.graph_actions.Goals as goal

pub push_actions-requires : goal.push_actions-requires
push_actions-requires c =
    let left = units_left c.args.tasks.now c.loop-number.number c.index-tasks-number.result c.loop-number-test.true c.index-tasks-number.is in
    let few = c.requires.few in
    let so_far = c.loop-number.invariant.1 in
    rw c.deref.ensures.value (omega (arith, left, few, so_far))

pub loop-number-preserved : goal.loop-number-preserved
loop-number-preserved c =
    let left = units_left c.args.tasks.now c.loop-number.number c.index-tasks-number.result c.loop-number-test.true c.index-tasks-number.is in
    let pushed = rw c.deref.ensures.value at c.in_ok-next.ensures.made in
    let next = rw c.deref.ensures.value at c.in_ok-next.ensures.next in
    let so_far = c.loop-number.invariant.1 in (
      rw next (next_actions c.loop-number.next _ _ _ c.args.tasks.now c.loop-number.number c.index-tasks-number.result c.loop-number-test.true c.index-tasks-number.is pushed c.loop-number.invariant.0),
      omega (arith, left, next, so_far),
    )

pub overflow_cast-number : goal.overflow_cast-number
overflow_cast-number c =
    let low = c.loop-number-test.true in
    let most = c.requires.tasks in
    omega (arith, low, most)
