use Rattle.std.proofs.Common.{map, List, ap, ◌∙◌}
use Rattle.coordination.specs.Names.{KeptView, PassView, M}
use Rattle.coordination.proofs.Closing.{closes, workers_all}
use Rattle.coordination.proofs.Ended.{closed_by}
use Rattle.coordination.proofs.slots.Slot.close.Goals as goal

pub returns : goal.returns
returns g' c =
    let ps : List PassView = c.args.passes.items in
    let g = c.args.self.table.shared.key.kept.value.book.graph in
    let seat = c.join-seat.result in
    let z = closes g seat.me.0.ledger seat.id seat.me.0 (map (λ p. p.sight) ps) _ _ (ap (λ (m : M). m.0) c.join-seat.ensures.view) (workers_all ps ∙ c.requires.all) c.close_with-closed.ensures.values.2 in record {
      closed = closed_by g ps _ _ c.into_book.result.value c.requires.all z c.take.ensures.value (c.into_book.ensures.value ∙ ap (λ (x : KeptView). x.book) c.keeper.view_is);
      keeps = c.into_book.ensures.keeps;
    }
