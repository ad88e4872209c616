use Rattle.std.proofs.Common.{take, true}
use Rattle.lock_transforms.specs.Making.{Makes}
use Rattle.lock_transforms.specs.Table.{taken_again}
use Rattle.lock_transforms.proofs.TakenUp.{last_first}
use Rattle.lock_transforms.proofs.kinds.unblocks.take_parked.Given as goal

abbrev pub invariant-loop-taken : goal.invariant-loop-taken
invariant-loop-taken l = Makes l.fn.work l.work (taken_again (take l.taken (last_first l.fn.work))) true
