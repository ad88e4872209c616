use Rattle.work_tickets.proofs.Seating.{counts}
use Rattle.work_tickets.proofs.opening.make_room.Goals as goal

pub another-requires-clause-rule : goal.another-requires-clause-rule
another-requires-clause-rule c = counts c.loop.pass.id c.loop.counter c.loop.pass.me.0.client c.loop.invariant.2 c.loop.invariant.1
