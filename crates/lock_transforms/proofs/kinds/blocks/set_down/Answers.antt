use Rattle.std.proofs.Common.{length, List, [], ◌∷◌, Bool, true, ap, subst, arith}
use Rattle.resource_lock.specs.declared.ids.LockId.{LockId}
use Rattle.resource_lock.specs.declared.changes.Change.TheVariants.{Give, Enter}
use Rattle.lock_transforms.specs.TentativeView.{TentativeView}
use Rattle.lock_transforms.specs.Making.{Makes}
use Rattle.lock_transforms.specs.Table.{owned, parked_locks}
use Rattle.lock_transforms.proofs.Freed.{length-parked_locks, owned_without}
use Rattle.lock_transforms.proofs.Makings.{makes_then, makes_stopped}
use Rattle.lock_transforms.proofs.kinds.blocks.set_down.Goals as goal

-- what gave the lease back, and then the locks
freed_too : {a b c : TentativeView} {all : Bool} → Makes a b (Give ∷ []) true → Makes b c (parked_locks (owned b.state b.worker)) all → Makes a c (Give ∷ parked_locks (owned a.state a.worker)) all
freed_too {b = b} {c} {all} given freed = makes_then given (subst (λ (ls : List LockId). Makes b c (parked_locks ls) all) (owned_without given) freed)

pub free_locks-requires-clause-room : goal.free_locks-requires-clause-room
free_locks-requires-clause-room c = omega (arith, ap length (owned_without c.if-not-try_change.ensures), length-parked_locks (owned c.try_change.new.work.state c.try_change.new.work.worker), c.requires.room, c.if-not-try_change.ensures.room, c.if-not-try_change.ensures.few)

pub returns-then-not-free_locks : goal.returns-then-not-free_locks
returns-then-not-free_locks c = makes_stopped (Enter ∷ []) (freed_too c.if-not-try_change.ensures c.if-not-free_locks.ensures)

pub try_change-requires-2-clause-room : goal.try_change-requires-2-clause-room
try_change-requires-2-clause-room c =
    let freed : Makes c.args.work.now c.free_locks.new.work (Give ∷ parked_locks (owned c.args.work.now.state c.args.work.now.worker)) true = freed_too c.if-not-try_change.ensures c.if-not-free_locks.ensures in
    omega (arith, length-parked_locks (owned c.args.work.now.state c.args.work.now.worker), c.requires.room, freed.room, freed.few)

pub returns : goal.returns
returns c = makes_then (freed_too c.if-not-try_change.ensures c.if-not-free_locks.ensures) c.try_change-2.ensures
