use Rattle.std.proofs.Common.{◌-◌, arith}
use Rattle.work_tickets.proofs.Seating.{cuts}
use Rattle.work_tickets.proofs.opening.cut_seats.Goals as goal

pub another-own-requires-clause-rule : goal.another-own-requires-clause-rule
another-own-requires-clause-rule c =
    let left = c.args.seats - c.loop.counter in
    cuts c.loop.pass.id c.args.seats left c.loop.pass.me.0.client (omega arith) c.loop.invariant.view
