use Rattle.std.proofs.Common.{◌≡◌, ◌+◌, ◌++◌, drop}
use Rattle.std.specs.Prelude.{sum_by}
use Rattle.planned_work.specs.Graphs.{actions_from}
use Rattle.planned_work.specs.Plans.{units_of_action}
use Rattle.planned_work.proofs.plan_graphs.push_actions.Given as goal

abbrev pub invariant-loop-action : goal.invariant-loop-action
invariant-loop-action l =
    (l.made.items ++ actions_from l.task l.next (drop l.action-index l.actions) ≡ l.initial.made.items ++ actions_from l.task l.first_unit l.actions)
    × (l.next + sum_by units_of_action (drop l.action-index l.actions) ≡ l.first_unit + sum_by units_of_action l.actions)
