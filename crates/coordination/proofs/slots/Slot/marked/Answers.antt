use Rattle.std.proofs.Common.{rules, sym, subst}
use Rattle.atomic_table.specs.Table.{Allows, step}
use mathlib.Core.Option.{none}
use Rattle.coordination.specs.Sights.{sight_of}
use Rattle.coordination.specs.Rule.{M, Orderly, heard}
use Rattle.coordination.proofs.Moves.{looks_it}
use Rattle.coordination.proofs.slots.Slot.marked.Goals as goal

pub load-found-requires : goal.load-found-requires
load-found-requires g c = let n = c.args.self.now.table.shared.key.kept.value.book.graph in let slots = c.args.self.now.table.shared.table_id.slots in let id = c.args.seat.now.id in
    (search rules, search rules, subst (λ (m : M). Allows (Orderly n) slots id m 1 (λ x. x) (heard (step slots 1 0 0 none) m)) (sym c.requires.lone) (looks_it n c.args.seat.now.me.0.ledger slots id (sight_of c.args.seat.now.me.0)))
