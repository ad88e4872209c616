use Rattle.std.proofs.Common.{arith}
use Rattle.run_watch.proofs.ItemClosings.{closing_within}
use Rattle.run_watch.proofs.lines.watch_of.Goals as goal

pub returns-in-Some-2-clause-watch : goal.returns-in-Some-2-clause-watch
returns-in-Some-2-clause-watch c =
    let le = closing_within c.args.unit c.args.book.now.history in
    record { shown = c.end_of-shown.ensures.shown; closed = omega (arith, le, c.end_of-shown.ensures.entries) }
