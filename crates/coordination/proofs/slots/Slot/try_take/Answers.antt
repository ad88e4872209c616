use Rattle.std.proofs.Common.{rules, eqb, sym, subst}
use prog.Atomic.{either}
use Rattle.atomic_table.specs.Table.{Allows, step}
use mathlib.Core.Option.{none}
use Rattle.coordination.specs.Names.{sight_of, M, Orderly, taken}
use Rattle.coordination.proofs.Moves.{takes_it}
use Rattle.coordination.proofs.slots.Slot.try_take.Goals as goal

pub compare_exchange-requires : goal.compare_exchange-requires
compare_exchange-requires g c = let n = c.args.self.now.table.shared.key.kept.value.book.graph in let slots = c.args.self.now.table.shared.table_id.slots in let id = c.args.seat.now.id in
    (search rules, search rules, subst (λ (m : M). Allows (Orderly n) slots id m 0 (λ n. either (eqb n 0) 1 n) (taken (step slots 0 0 1 none) m)) (sym c.requires.lone) (takes_it n c.args.seat.now.me.0.ledger slots id (sight_of c.args.seat.now.me.0)))
