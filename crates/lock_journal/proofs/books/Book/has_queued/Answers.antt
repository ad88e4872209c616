use Rattle.std.proofs.Common.{◌∙◌}
use Rattle.ready_work.proofs.QueuedUnits.{queued_by_lowest}
use Rattle.lock_journal.proofs.books.Book.has_queued.Goals as goal

pub returns : goal.returns
returns c =
    c.is_some.ensures
    ∙ queued_by_lowest c.args.self.now.graph c.args.self.now.state c.lowest_queued.result c.state.ensures.belongs c.lowest_queued.ensures.some c.lowest_queued.ensures.none
