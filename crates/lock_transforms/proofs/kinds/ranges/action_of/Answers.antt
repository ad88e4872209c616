use Rattle.lock_transforms.proofs.lemmas.Within.{action_read, task_within}
use Rattle.lock_transforms.proofs.kinds.ranges.action_of.Goals as goal

pub returns-clause-task : goal.returns-clause-task
returns-clause-task c = task_within c.args.graph.now _ c.args.action (action_read c.actions.result.now c.args.action _ c.actions.ensures.fits c.actions.ensures.value c.requires).own

pub returns-clause-own : goal.returns-clause-own
returns-clause-own c = (action_read c.actions.result.now c.args.action _ c.actions.ensures.fits c.actions.ensures.value c.requires).own

pub returns-clause-units : goal.returns-clause-units
returns-clause-units c = (action_read c.actions.result.now c.args.action _ c.actions.ensures.fits c.actions.ensures.value c.requires).units
