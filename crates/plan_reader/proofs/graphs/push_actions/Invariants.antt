use Rattle.std.proofs.Common.{◌≡◌, ◌+◌, ◌++◌, map, drop}
use Rattle.plan_reader.specs.PlanView.{plan_action_view}
use Rattle.plan_reader.specs.Graph.{actions_from, units_in_all}
use Rattle.plan_reader.proofs.graphs.push_actions.Given as goal

abbrev pub invariant-loop-action : goal.invariant-loop-action
invariant-loop-action l =
    (l.made.items ++ actions_from l.task l.next (map plan_action_view (drop l.action-index l.actions)) ≡ l.initial.made.items ++ actions_from l.task l.first_unit (map plan_action_view l.actions))
    × (l.next + units_in_all (map plan_action_view (drop l.action-index l.actions)) ≡ l.first_unit + units_in_all (map plan_action_view l.actions))
