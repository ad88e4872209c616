use Rattle.std.proofs.Common.{◌≡◌, ◌++◌, ◌∷◌, [], ◌∙◌, length, ap, arith}
use Rattle.plan_reader.specs.Graph.{task_lock}
use Rattle.plan_reader.proofs.GraphSteps.{few_at, outlined, next_task}
use Rattle.plan_reader.proofs.graphs.graph_tasks.Goals as goal

pub overflow_cast-actions : goal.overflow_cast-actions
overflow_cast-actions c =
    let few = few_at c.args.tasks.now c.loop-task.task-index c.task-item.result c.loop-task-test.true c.task-item.is c.requires.few_actions in
    omega (arith, few, c.len-actions.ensures, c.task-item.result.actions.ok.0)

pub overflow_add-first_action : goal.overflow_add-first_action
overflow_add-first_action c =
    let few = few_at c.args.tasks.now c.loop-task.task-index c.task-item.result c.loop-task-test.true c.task-item.is c.requires.few_actions in
    let low = c.loop-task.invariant.1 in
    omega (arith, few, low, c.len-actions.ensures, c.task-item.result.actions.ok.0)

pub loop-task-preserved : goal.loop-task-preserved
loop-task-preserved c =
    let few = few_at c.args.tasks.now c.loop-task.task-index c.task-item.result c.loop-task-test.true c.task-item.is c.requires.few_actions in
    let long : c.len-actions.result ≡ length c.task-item.result.actions.items = c.len-actions.ensures ∙ c.task-item.result.actions.ok.0 in
    let pushed =
    c.in_ok-push.ensures.ok
    ∙ ap (λ o. c.loop-task.made ++ o ∷ []) (outlined (task_lock c.args.all c.args.parallel) c.task-item.result _ _ c.loop-task.first_action _ c.task_lock.ensures c.deref.ensures.value long) in
    let low = c.loop-task.invariant.1 in (
      rw long (next_task (task_lock c.args.all c.args.parallel) c.loop-task.first_action _ _ _ c.args.tasks.now c.loop-task.task-index c.task-item.result c.loop-task-test.true c.task-item.is pushed c.loop-task.invariant.0),
      omega (arith, few, low, long),
    )
