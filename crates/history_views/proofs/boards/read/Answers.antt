use Rattle.left_right.specs.Sides.{view}
use Rattle.history_views.proofs.Showing.{looks_it}
use Rattle.history_views.proofs.boards.read.Goals as goal

pub enter_as-requires : goal.enter_as-requires
enter_as-requires c = looks_it c.args.reader.place.id (view c.args.reader.place)
