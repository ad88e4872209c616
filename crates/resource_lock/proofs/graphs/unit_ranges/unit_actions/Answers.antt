use Rattle.std.proofs.Common.{◌+◌, sym, subst, arith}
use Rattle.resource_lock.specs.UnitActions.{HasUnitActions}
use Rattle.resource_lock.proofs.Noting.{first_near, near_next, none_noted, noted_next}
use Rattle.resource_lock.proofs.graphs.unit_ranges.unit_actions.Goals as goal

pub loop-unit-init : goal.loop-unit-init
loop-unit-init c = (
  none_noted c.args.graph.now c.in_ok-unit_actions.unit_actions.items c.in_ok-unit_actions.ensures.items,
  λ some. first_near c.args.graph.now c.actions.ensures.fits some,
  omega (arith, c.in_ok-unit_actions.ensures.capacity, c.units.ensures),
)

pub loop-unit-preserved : goal.loop-unit-preserved
loop-unit-preserved c =
    let graph = c.args.graph.now in
    let action = c.this_or_next-action.result in (
      subst (HasUnitActions graph (c.loop-unit.unit + 1)) (sym c.push_reserved.ensures.items)
          (noted_next graph c.loop-unit.unit action c.loop-unit.unit_actions.items c.this_or_next-action.ensures.in_range c.this_or_next-action.ensures.action c.loop-unit.invariant.0),
      λ more. near_next graph c.loop-unit.unit action c.this_or_next-action.ensures.in_range c.this_or_next-action.ensures.action,
      omega (arith, c.loop-unit.invariant.2, c.push_reserved.ensures.capacity),
    )
