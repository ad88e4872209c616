use Rattle.std.proofs.Common.{◌≡◌, ◌+◌, ◌++◌, map, drop, length}
use Rattle.std.specs.List.{flat_map}
use Rattle.plan_reader.specs.PlanView.{plan_task_view}
use Rattle.plan_reader.specs.Units.{task_units}
use Rattle.plan_reader.specs.Graph.{all_actions_from}
use Rattle.plan_reader.proofs.graphs.graph_actions.Given as goal

abbrev pub invariant-loop-number : goal.invariant-loop-number
invariant-loop-number l =
    (l.made.items ++ all_actions_from l.number l.next (map plan_task_view (drop l.number l.tasks)) ≡ all_actions_from 0 0 (map plan_task_view l.tasks))
    × (l.next + length (flat_map task_units (map plan_task_view (drop l.number l.tasks))) ≡ length (flat_map task_units (map plan_task_view l.tasks)))
