use Rattle.std.proofs.Common.{rules, ap, ◌+◌, ◌∙◌, ℕ, sym, subst, eqb}
use prog.Atomic.{either}
use Rattle.atomic_table.specs.Table.{Allows, step}
use mathlib.Core.Option.{none}
use Rattle.resource_lock.specs.declared.ids.WorkerId.{WorkerId}
use Rattle.coordination.specs.Sights.{sight_of}
use Rattle.coordination.specs.Rule.{M, Orderly, stopped_at}
use Rattle.coordination.proofs.Moves.{stops_it}
use Rattle.coordination.proofs.slots.Slot.mark.Goals as goal

pub compare_exchange-found-requires : goal.compare_exchange-found-requires
compare_exchange-found-requires g c =
    let n = c.args.self.now.table.shared.key.kept.value.book.graph in let slots = c.args.self.now.table.shared.table_id.slots in let id = c.args.seat.now.id in
    let goal_at : M → ℕ → Type 0 = λ m w. Allows (Orderly n) slots id m 1 (λ x. either (eqb x 0) (w + 1) x) (stopped_at (step slots 1 0 (w + 1) none) m) in
    (search rules, search rules, subst (λ (p : M × ℕ). goal_at p.0 p.1) (λ i. (sym c.requires.lone i, sym (c.from.ensures ∙ ap (λ (v : WorkerId). v.0) c.requires.worker) i)) (stops_it n c.args.seat.now.me.0.ledger slots id (sight_of c.args.seat.now.me.0)))
