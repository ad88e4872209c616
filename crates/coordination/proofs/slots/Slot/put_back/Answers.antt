use Rattle.std.proofs.Common.{rules, sym, subst}
use Rattle.atomic_table.specs.Table.{Allows, step}
use mathlib.Core.Option.{none}
use Rattle.coordination.specs.Names.{sight_of, M, Orderly, carried_book, put_back}
use Rattle.coordination.proofs.Moves.{puts_it}
use Rattle.coordination.proofs.slots.Slot.put_back.Goals as goal

pub store-requires : goal.store-requires
store-requires g c = let n = c.args.self.now.table.shared.key.kept.value.book.graph in let slots = c.args.self.now.table.shared.table_id.slots in let id = c.args.seat.now.id in let own = c.requires.own in (
  search rules,
  search rules,
  subst (λ (m : M). Allows (Orderly n) slots id m 0 (λ _. 0) (λ _. put_back (step slots 0 0 0 none) m 0)) (sym c.requires.held)
      (puts_it n c.args.seat.now.me.0.ledger slots id (sight_of c.args.seat.now.me.0) (carried_book c.args.seat.now.me.1) own),
)
