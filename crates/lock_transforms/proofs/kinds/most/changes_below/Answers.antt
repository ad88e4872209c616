use Rattle.std.proofs.Common.{◌+◌, ap, arith}
use Rattle.resource_lock.specs.declared.graphs.GraphAction.{GraphAction}
use Rattle.lock_transforms.proofs.Most.{below_by_units}
use Rattle.lock_transforms.proofs.kinds.most.changes_below.Goals as goal

pub overflow_sub-last : goal.overflow_sub-last
overflow_sub-last c =
    (below_by_units c.actions_of-actions.ensures.fits c.args.task c.actions_of-actions.result.first c.actions_of-actions.result.count c.action_of-first.result.first_unit
    (c.units_of-last.result.first + c.units_of-last.result.count) c.actions_of-actions.ensures.first c.actions_of-actions.ensures.count (omega arith) c.actions_of-actions.ensures.in_range
    (ap (λ (a : GraphAction). a.first_unit) c.action_of-first.ensures.value) (omega (arith, c.units_of-last.ensures.first, c.units_of-last.ensures.count))).0

pub returns-clause-value : goal.returns-clause-value
returns-clause-value c =
    let spanned = below_by_units c.actions_of-actions.ensures.fits c.args.task c.actions_of-actions.result.first c.actions_of-actions.result.count c.action_of-first.result.first_unit
    (c.units_of-last.result.first + c.units_of-last.result.count) c.actions_of-actions.ensures.first c.actions_of-actions.ensures.count (omega arith) c.actions_of-actions.ensures.in_range
    (ap (λ (a : GraphAction). a.first_unit) c.action_of-first.ensures.value) (omega (arith, c.units_of-last.ensures.first, c.units_of-last.ensures.count)) in
    omega (arith, spanned.0, spanned.1, c.from.ensures, c.from-2.ensures)
