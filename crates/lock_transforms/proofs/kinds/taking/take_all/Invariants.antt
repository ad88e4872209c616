use Rattle.std.proofs.Common.{take, true}
use Rattle.lock_transforms.specs.Making.{Makes}
use Rattle.lock_transforms.specs.Taking.{locks_taken}
use Rattle.lock_transforms.proofs.kinds.taking.take_all.Given as goal

abbrev pub invariant-loop-lock : goal.invariant-loop-lock
invariant-loop-lock l = Makes l.fn.work l.work (locks_taken l.fn.work.state l.fn.work.worker (take l.lock-index l.locks)) true
