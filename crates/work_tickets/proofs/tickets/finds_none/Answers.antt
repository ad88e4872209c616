use Rattle.work_tickets.proofs.Together.{learns_line}
use Rattle.work_tickets.proofs.tickets.finds_none.Goals as goal

pub is_empty_as-requires-clause-rule : goal.is_empty_as-requires-clause-rule
is_empty_as-requires-clause-rule c =
    let pass = c.args.pass.now in
    learns_line pass.id pass.me.0.client c.requires.lone
