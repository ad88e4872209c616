use Rattle.std.proofs.Common.{take, true}
use Rattle.lock_transforms.specs.Making.{Makes}
use Rattle.lock_transforms.specs.Freeing.{freed}
use Rattle.lock_transforms.proofs.kinds.freeing.free_named.Given as goal

abbrev pub invariant-loop-lock : goal.invariant-loop-lock
invariant-loop-lock l = Makes l.fn.work l.work (freed l.parks (take l.lock-index l.locks)) true
