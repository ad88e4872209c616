use Rattle.std.proofs.Common.{◌≡◌, refl, sym, subst}
use Rattle.std.specs.List.{All}
use Rattle.std.proofs.lemmas.List.Elements.{All-nil}
use Rattle.left_right.specs.Sides.{view}
use Rattle.history_views.specs.Growing.{ReachView}
use Rattle.history_views.proofs.Showing.{next_of, shows_it}
use Rattle.history_views.proofs.boards.open_board.Goals as goal

pub publish_as-writer-requires : goal.publish_as-writer-requires
publish_as-writer-requires g c = λ next is.
    let w = c.in_ok-writer.writer in
    let x : ReachView = w.desk.shown.value in
    shows_it w.desk.place.id (view w.desk.place) x next
    (next_of x.ledger x next _ refl (subst (All (λ (r : ReachView). r.ledger ≡ x.ledger)) (sym c.in_ok-writer.ensures.1) (All-nil (λ (r : ReachView). r.ledger ≡ x.ledger))) is)
