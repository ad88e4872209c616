use Rattle.left_right.specs.Sides.{view}
use Rattle.history_views.proofs.Showing.{admits, hears_it, tells_it}
use Rattle.history_views.proofs.boards.reader_of.Goals as goal

pub reader-requires : goal.reader-requires
reader-requires c = admits

pub tell-requires : goal.tell-requires
tell-requires c = tells_it c.args.writer.now.desk.place.id (view c.args.writer.now.desk.place)

pub learn-requires-clause-rule : goal.learn-requires-clause-rule
learn-requires-clause-rule c = hears_it c.in_ok-reader.reader.place.id (view c.in_ok-reader.reader.place) c.tell.result.id (view c.tell.result)
