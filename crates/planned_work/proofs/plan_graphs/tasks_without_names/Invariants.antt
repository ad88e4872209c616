use Rattle.std.proofs.Common.{◌≡◌, [], map, take}
use Rattle.resource_lock.specs.GraphTasks.{graph_view}
use Rattle.resource_lock.specs.declared.graph_tasks.GraphTask.{GraphTask}
use Rattle.planned_work.proofs.plan_graphs.tasks_without_names.Given as goal

abbrev pub invariant-loop-row : goal.invariant-loop-row
invariant-loop-row l = l.made ≡ map (λ (t : GraphTask). graph_view t []) (take l.row-index l.row-items)
