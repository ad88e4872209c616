use Rattle.std.proofs.Common.{◌≡◌, ◌+◌, ◌++◌, map, drop}
use Rattle.ready_work.specs.Rank.{lists_of}
use Rattle.planned_work.specs.Graphs.{actions_in, rows_from}
use Rattle.planned_work.specs.Plans.{planned_task_view}
use Rattle.planned_work.proofs.plan_graphs.graph_tasks.Given as goal

abbrev pub invariant-loop-number : goal.invariant-loop-number
invariant-loop-number l =
    (l.made ++ rows_from l.first_action (map planned_task_view (drop l.number l.tasks)) (lists_of (drop l.number l.after))
    ≡ rows_from 0 (map planned_task_view l.tasks) (lists_of l.after))
    × (l.first_action + actions_in (map planned_task_view (drop l.number l.tasks)) ≡ actions_in (map planned_task_view l.tasks))
