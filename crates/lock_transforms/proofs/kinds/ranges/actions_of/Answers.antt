use Rattle.std.proofs.Common.{arith}
use Rattle.lock_transforms.proofs.lemmas.Within.{task_read}
use Rattle.lock_transforms.proofs.kinds.ranges.actions_of.Goals as goal

pub invariant_of-result : goal.invariant_of-result
invariant_of-result c =
    let read = task_read c.tasks.result.now c.args.task c.tasks.ensures.fits c.tasks.ensures.value c.requires in
    record { fits = omega (arith, c.at-task.ensures.first, c.at-task.ensures.actions, read.fits) }

pub returns-clause-in_range : goal.returns-clause-in_range
returns-clause-in_range c =
    let read = task_read c.tasks.result.now c.args.task c.tasks.ensures.fits c.tasks.ensures.value c.requires in
    omega (arith, c.at-task.ensures.first, c.at-task.ensures.actions, read.actions)
