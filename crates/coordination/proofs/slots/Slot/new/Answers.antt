use Rattle.std.proofs.Common.{List, [], ◌∷◌, subst, sym}
use Rattle.atomic_table.specs.Table.{opening}
use Rattle.coordination.specs.Names.{KeptView, kept, Orderly}
use Rattle.coordination.specs.Sights.{starting}
use Rattle.coordination.proofs.Seating.{begins}
use Rattle.coordination.proofs.slots.Slot.new.Goals as goal

pub new-requires : goal.new-requires
new-requires g c =
    let x : KeptView = kept (g.K.Keeper.book_of c.args.keeper) (g.K.Keeper.ledger_of c.args.keeper) in
    subst (λ (p : List KeptView × KeptView). Orderly p.1.book.graph (opening (0 ∷ 0 ∷ []) p.0 (starting p.1))) (λ i. (sym c.in_ok-slots.ensures i, sym c.of-start.ensures.kept i)) (begins x c.of-start.ensures.sound c.of-start.ensures.few)
