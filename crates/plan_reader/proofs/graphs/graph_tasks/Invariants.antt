use Rattle.std.proofs.Common.{◌≡◌, ◌≤◌, ◌*◌, ◌++◌, map, drop}
use Rattle.plan_reader.specs.declared.limits.TheConstants.{MAX_ACTIONS_PER_TASK}
use Rattle.plan_reader.specs.PlanView.{plan_task_view}
use Rattle.plan_reader.specs.Graph.{task_lock, tasks_from}
use Rattle.plan_reader.proofs.graphs.graph_tasks.Given as goal

abbrev pub invariant-loop-task : goal.invariant-loop-task
invariant-loop-task l =
    (l.made ++ tasks_from (task_lock l.all l.parallel) l.first_action (map plan_task_view (drop l.task-index l.tasks)) ≡ tasks_from (task_lock l.all l.parallel) 0 (map plan_task_view l.tasks))
    × (l.first_action ≤ MAX_ACTIONS_PER_TASK * l.task-index)
