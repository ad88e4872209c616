use Rattle.std.proofs.Common.{◌∙◌, sym}
use Rattle.left_right.specs.Sides.{view}
use Rattle.history_views.proofs.Showing.{next_of, published, shows_it, shows_last}
use Rattle.history_views.proofs.boards.show.Goals as goal

pub publish_as-writer-requires : goal.publish_as-writer-requires
publish_as-writer-requires g c = λ next is.
    let w = c.has_room-is_last.new.writer in
    let old = c.has_room-is_last.ensures.writes in
    shows_it w.desk.place.id (view w.desk.place) w.desk.shown.value next (next_of c.args.reach.now.ledger w.desk.shown.value next _ old.shows old.pending is ∙ sym old.shows)

pub returns-clause-writes : goal.returns-clause-writes
returns-clause-writes g c =
    let p = c.publish_as-writer in
    published c.args.reach.now.ledger c.has_room-is_last.new.writer.desk.shown.value p.result.0.desk.shown.value (view c.has_room-is_last.new.writer.desk.place) (view p.result.0.desk.place) _ _ p.result.1
    c.has_room-is_last.ensures.writes (p.ensures.succeeds tt) p.ensures.values p.ensures.rule

pub returns-clause-shown : goal.returns-clause-shown
returns-clause-shown g c = λ is_last.
    let p = c.publish_as-writer in
    shows_last c.has_room-is_last.new.writer.desk.shown.value p.result.0.desk.shown.value c.args.reach.now _ _ p.result.1 (p.ensures.succeeds tt) p.ensures.values (c.has_room-is_last.ensures.last is_last)
