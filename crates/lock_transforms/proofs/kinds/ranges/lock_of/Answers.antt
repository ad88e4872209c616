use Rattle.std.proofs.Common.{ap, arith}
use Rattle.resource_lock.specs.declared.ids.LockId.{LockId}
use Rattle.lock_transforms.proofs.lemmas.Within.{task_read}
use Rattle.lock_transforms.proofs.kinds.ranges.lock_of.Goals as goal

pub returns-clause-in_range : goal.returns-clause-in_range
returns-clause-in_range c =
    omega (arith, ap (λ (l : LockId). l.0) c.at.ensures.lock, (task_read c.tasks.result.now c.args.task c.tasks.ensures.fits c.tasks.ensures.value c.requires).lock)
