use Rattle.std.proofs.Common.{take, true}
use Rattle.lock_transforms.specs.Making.{Makes}
use Rattle.lock_transforms.proofs.kinds.making.try_changes.Given as goal

abbrev pub invariant-loop-change : goal.invariant-loop-change
invariant-loop-change l = Makes l.fn.work l.work (take l.change-index l.changes) true
