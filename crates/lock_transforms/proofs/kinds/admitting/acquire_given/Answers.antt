use Rattle.std.proofs.Common.{refl, arith}
use Rattle.lock_transforms.proofs.Admitting.{acquired_tried, refused_at_once}
use Rattle.lock_transforms.proofs.kinds.admitting.acquire_given.Goals as goal

pub try_changes-requires-clause-named : goal.try_changes-requires-clause-named
try_changes-requires-clause-named c = (c.if-are_acquired.ensures.acquired refl).named

pub try_changes-requires-clause-room : goal.try_changes-requires-clause-room
try_changes-requires-clause-room c = omega (arith, (c.if-are_acquired.ensures.acquired refl).few, c.requires.room.locks)

pub returns-then-are_acquired : goal.returns-then-are_acquired
returns-then-are_acquired c = acquired_tried c.requires.fresh (c.if-are_acquired.ensures.acquired refl) c.try_changes.ensures

pub returns-else-are_acquired : goal.returns-else-are_acquired
returns-else-are_acquired c = refused_at_once c.if-are_acquired.false c.requires.fresh (c.if-are_acquired.ensures.refused refl)
