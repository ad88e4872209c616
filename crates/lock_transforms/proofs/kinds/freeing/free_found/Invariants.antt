use Rattle.std.proofs.Common.{true}
use Rattle.lock_transforms.specs.Making.{Makes}
use Rattle.lock_transforms.specs.Freeing.{freed}
use Rattle.lock_transforms.proofs.Freed.{owned_below}
use Rattle.lock_transforms.proofs.kinds.freeing.free_found.Given as goal

abbrev pub invariant-loop-lock : goal.invariant-loop-lock
invariant-loop-lock l = Makes l.fn.work l.work (freed l.parks (owned_below l.fn.work.state l.fn.work.worker l.lock)) true
