use Rattle.std.proofs.Common.{ℕ, subst}
use Rattle.crossbeam_queue.specs.Fifo.{Pushes}
use Rattle.work_tickets.specs.Rule.{Orderly, has_pushed}
use Rattle.work_tickets.proofs.Moves.{pushes}
use Rattle.work_tickets.proofs.Together.{learns_line}
use Rattle.work_tickets.proofs.tickets.push_within.Goals as goal

pub push_as-requires-clause-rule : goal.push_as-requires-clause-rule
push_as-requires-clause-rule g c =
    let n : ℕ = c.args.queue.now.cap in
    let id = c.args.pass.now.id in
    let v = c.args.pass.now.me.0.client in
    let x = c.args.unit in (
      subst (λ (m : ℕ). Pushes Orderly n id v x (has_pushed m v x)) c.requires.room (pushes n id v x c.requires.lone),
      learns_line id v c.requires.lone,
    )
