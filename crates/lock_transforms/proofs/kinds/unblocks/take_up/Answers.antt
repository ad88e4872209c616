use Rattle.lock_transforms.proofs.Makings.{makes_stopped}
use Rattle.std.proofs.Common.{[], ◌∷◌}
use Rattle.resource_lock.specs.declared.changes.Change.TheVariants.{Take}
use Rattle.lock_transforms.proofs.TakenUp.{holding_then, lease_too, parked_too, room_after_leave, room_for_lease}
use Rattle.lock_transforms.proofs.kinds.unblocks.take_up.Goals as goal

pub take_parked-requires : goal.take_parked-requires
take_parked-requires c = room_after_leave c.requires.sound c.requires.room c.if-not-try_change.ensures

pub returns-then-not-take_parked : goal.returns-then-not-take_parked
returns-then-not-take_parked c = makes_stopped (Take ∷ []) (parked_too c.requires.sound c.if-not-try_change.ensures c.if-not-take_parked.ensures)

pub take_all-requires-clause-not_blocked : goal.take_all-requires-clause-not_blocked
take_all-requires-clause-not_blocked c = (holding_then c.requires.sound c.if-not-try_change.ensures c.if-not-take_parked.ensures).0

pub take_all-requires-clause-room : goal.take_all-requires-clause-room
take_all-requires-clause-room c = room_for_lease c.requires.sound c.requires.room (parked_too c.requires.sound c.if-not-try_change.ensures c.if-not-take_parked.ensures)

pub returns : goal.returns
returns c = lease_too c.requires.sound c.if-not-try_change.ensures c.if-not-take_parked.ensures c.take_all.ensures.taken
