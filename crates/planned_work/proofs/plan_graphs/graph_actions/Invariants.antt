use Rattle.std.proofs.Common.{◌≡◌, ◌+◌, ◌++◌, map, drop}
use Rattle.std.specs.Prelude.{sum_by}
use Rattle.planned_work.specs.Graphs.{all_actions_from}
use Rattle.planned_work.specs.Plans.{planned_task_view, units_of_task}
use Rattle.planned_work.proofs.plan_graphs.graph_actions.Given as goal

abbrev pub invariant-loop-number : goal.invariant-loop-number
invariant-loop-number l =
    (l.made.items ++ all_actions_from l.number l.next (map planned_task_view (drop l.number l.tasks)) ≡ all_actions_from 0 0 (map planned_task_view l.tasks))
    × (l.next + sum_by units_of_task (map planned_task_view (drop l.number l.tasks)) ≡ sum_by units_of_task (map planned_task_view l.tasks))
