use Rattle.std.proofs.Common.{arith}
use Rattle.plan_reader.proofs.GraphSteps.{units_left, next_actions}
use Rattle.plan_reader.proofs.graphs.graph_actions.Goals as goal

pub push_actions-requires : goal.push_actions-requires
push_actions-requires c =
    let left = units_left c.args.tasks.now c.loop-number.number c.index-tasks-number.result c.loop-number-test.true c.index-tasks-number.is in
    let few = c.requires.few_units in
    let so_far = c.loop-number.invariant.1 in
    rw c.deref.ensures.value (omega (arith, left, few, so_far))

pub loop-number-preserved : goal.loop-number-preserved
loop-number-preserved c =
    let left = units_left c.args.tasks.now c.loop-number.number c.index-tasks-number.result c.loop-number-test.true c.index-tasks-number.is in
    let pushed = rw c.deref.ensures.value at c.in_ok-next.ensures.made in
    let next = rw c.deref.ensures.value at c.in_ok-next.ensures.next in
    let so_far = c.loop-number.invariant.1 in (
      rw next (next_actions c.loop-number.next _ _ _ c.args.tasks.now c.loop-number.number c.index-tasks-number.result c.loop-number-test.true c.index-tasks-number.is pushed c.loop-number.invariant.0),
      omega (arith, left, next, so_far),
    )
