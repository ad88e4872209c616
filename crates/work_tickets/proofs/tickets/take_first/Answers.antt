use Rattle.work_tickets.proofs.Moves.{pops}
use Rattle.work_tickets.proofs.Together.{learns_line}
use Rattle.work_tickets.proofs.tickets.take_first.Goals as goal

pub pop_as-requires-clause-rule : goal.pop_as-requires-clause-rule
pop_as-requires-clause-rule g c =
    let pass = c.args.pass.now in
    (pops pass.id pass.me.0.client c.requires.lone, learns_line pass.id pass.me.0.client c.requires.lone)
