use Rattle.std.proofs.Common.{◌∷◌, ◌∙◌, ap, sym}
use Rattle.atomic_table.specs.Table.{rest}
use Rattle.coordination.specs.Names.{kept, carried_book}
use Rattle.coordination.proofs.holds.Slot+Guarded+O+K.act_held.Goals as goal

pub slot_mut-kept-requires : goal.slot_mut-kept-requires
slot_mut-kept-requires g c = let held = c.requires.held in let there = kept (carried_book c.args.seat.now.me.1) c.args.seat.now.me.0.ledger in (c.requires.id, (there, held ∙ ap (λ l. (0, there) ∷ rest l) (sym held)))
