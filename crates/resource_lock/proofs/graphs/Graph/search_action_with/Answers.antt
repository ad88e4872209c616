use Rattle.std.proofs.Common.{◌≡◌, ◌<◌, ◌≤◌, length, leb, true, false, rules, sym, ap, subst, arith}
use Rattle.std.specs.List.Sorted.{IsPartitionPoint, IsNonDecreasingBy}
use Rattle.std.proofs.lemmas.List.Sorted.{IsPartitionPoint-from_clause, IsPartitionedBy-leb}
use Rattle.resource_lock.specs.GraphView.{action_of}
use Rattle.resource_lock.specs.Ranges.{units_in}
use Rattle.resource_lock.proofs.Follows.{ends_rise}
use Rattle.resource_lock.proofs.lemmas.Units.{end_of, at_partition, unit_from, few_actions_in_all}
use Rattle.resource_lock.proofs.graphs.Graph.search_action_with.Goals as goal

-- the action that the search finds is there, and the unit is in its range
found : (c : goal.After-partition_point) → (c.partition_point.result < length c.args.self.now.actions) × ((action_of c.args.self.now c.partition_point.result).first_unit ≤ c.args.unit) × (c.args.unit < end_of (action_of c.args.self.now c.partition_point.result))
found c = at_partition c.args.self.now c.args.unit c.partition_point.result c.actions-actions.ensures.fits c.requires
    (omega (arith, c.partition_point.ensures.bound, ap length c.actions-actions.ensures.value))
    (subst (λ actions. IsPartitionPoint (λ a. leb (end_of a) c.args.unit ≡ true) (λ a. leb (end_of a) c.args.unit ≡ false) actions c.partition_point.result) c.actions-actions.ensures.value
    (IsPartitionPoint-from_clause (λ a. leb (end_of a) c.args.unit) c.actions-actions.result.now c.partition_point.result c.partition_point.ensures.partitioned
    (IsPartitionedBy-leb end_of c.actions-actions.result.now c.args.unit (subst (λ actions. IsNonDecreasingBy end_of actions) (sym c.actions-actions.ensures.value) (ends_rise (λ a. a.first_unit) units_in 0 c.args.self.now.actions c.args.self.now.units c.actions-actions.ensures.fits.units_follow)))
    (λ a r f k. search rules)))

pub overflow_cast-result : goal.overflow_cast-result
overflow_cast-result c = omega (arith, c.partition_point.ensures.bound, few_actions_in_all c.args.self.now c.actions-actions.ensures.fits, ap length c.actions-actions.ensures.value)

pub returns-clause-action : goal.returns-clause-action
returns-clause-action c = unit_from c.args.self.now c.partition_point.result c.args.unit (found c).1 (found c).2

pub returns-clause-in_range : goal.returns-clause-in_range
returns-clause-in_range c = (found c).0
