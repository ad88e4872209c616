use Rattle.std.proofs.Common.{rules, sym, subst}
use Rattle.atomic_table.specs.Table.{Allows, step}
use mathlib.Core.Option.{none}
use Rattle.coordination.specs.Names.{sight_of, M, Orderly, taken}
use Rattle.coordination.proofs.Moves.{takes_or_waits}
use Rattle.coordination.proofs.slots.Slot.take_or_wait.Goals as goal

pub swap-requires : goal.swap-requires
swap-requires g c = let n = c.args.self.now.table.shared.key.kept.value.book.graph in let slots = c.args.self.now.table.shared.table_id.slots in let id = c.args.seat.now.id in
    (search rules, search rules, subst (λ (m : M). Allows (Orderly n) slots id m 0 (λ _. 2) (taken (step slots 0 2 0 none) m)) (sym c.requires.lone) (takes_or_waits n c.args.seat.now.me.0.ledger slots id (sight_of c.args.seat.now.me.0)))
