use Rattle.std.proofs.Common.{◌<◌, ◌≤◌}
use Rattle.std.specs.Vec.{vec_capacity}
use Rattle.resource_lock.specs.UnitActions.{HasUnitActions, IsNear}
use Rattle.resource_lock.proofs.graphs.unit_ranges.unit_actions.Given as goal

-- the units before this one have their actions, and the action is near this one, if there is one
abbrev pub invariant-loop-unit : goal.invariant-loop-unit
invariant-loop-unit l = HasUnitActions l.graph l.unit l.unit_actions.items × (l.unit < l.graph.units → IsNear l.graph l.unit l.action) × (l.graph.units ≤ vec_capacity l.unit_actions)
