use Rattle.std.proofs.Common.{◌+◌}
use Rattle.resource_lock.specs.declared.changes.Change.TheVariants.{Unlock}
use Rattle.lock_transforms.proofs.Freed.{next_named, room_named, stopped_named}
use Rattle.lock_transforms.proofs.Makings.{still_named}
use Rattle.lock_transforms.proofs.kinds.freeing.free_named.Goals as goal

pub free_one-requires-clause-in_range : goal.free_one-requires-clause-in_range
free_one-requires-clause-in_range c = still_named (Unlock _) c.loop-lock.invariant (c.requires.in_range c.loop-lock.lock-index _ c.loop-lock-test.true)

pub free_one-requires-clause-room : goal.free_one-requires-clause-room
free_one-requires-clause-room c = room_named c.args.parks c.args.locks.now c.loop-lock.lock-index _ c.loop-lock-test.true c.loop-lock.invariant c.requires.room

pub returns-then-not-free_one : goal.returns-then-not-free_one
returns-then-not-free_one c = stopped_named c.args.parks c.args.locks.now (c.loop-lock.lock-index + 1) (next_named c.args.parks c.args.locks.now c.loop-lock.lock-index _ c.loop-lock-test.true c.loop-lock.invariant c.if-not-free_one.ensures)

pub loop-lock-preserved : goal.loop-lock-preserved
loop-lock-preserved c = next_named c.args.parks c.args.locks.now c.loop-lock.lock-index _ c.loop-lock-test.true c.loop-lock.invariant c.if-not-free_one.ensures
