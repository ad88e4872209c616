use Rattle.std.proofs.Common.{arith}
use Rattle.std.proofs.lemmas.List.{length-map}
use Rattle.resource_lock.specs.declared.changes.Change.TheVariants.{Unlock}
use Rattle.lock_transforms.specs.Table.{owned}
use Rattle.lock_transforms.proofs.Freed.{lease_given, then_give}
use Rattle.lock_transforms.proofs.Makings.{makes_stopped}
use Rattle.lock_transforms.proofs.kinds.hand_backs.HandBackFixedKind.make.Goals as goal

pub free_locks-requires-clause-room : goal.free_locks-requires-clause-room
free_locks-requires-clause-room c = omega (arith, length-map (owned c.args.work.now.state c.args.work.now.worker) Unlock, c.requires.room)

pub returns-then-not-free_locks-clause-made : goal.returns-then-not-free_locks-clause-made
returns-then-not-free_locks-clause-made c = makes_stopped (lease_given c.args.work.now.state c.args.work.now.worker) c.if-not-free_locks.ensures

pub give-requires : goal.give-requires
give-requires c = omega (arith, length-map (owned c.args.work.now.state c.args.work.now.worker) Unlock, c.requires.room, c.if-not-free_locks.ensures.room, c.if-not-free_locks.ensures.few)

pub returns-clause-made : goal.returns-clause-made
returns-clause-made c = then_give c.if-not-free_locks.ensures
    (omega (arith, length-map (owned c.args.work.now.state c.args.work.now.worker) Unlock, c.requires.room, c.if-not-free_locks.ensures.room, c.if-not-free_locks.ensures.few))
    c.give.ensures
