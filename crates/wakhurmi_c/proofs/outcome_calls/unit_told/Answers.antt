use Rattle.std.proofs.Common.{ℕ, IfNone, inr, sym, subst}
use Rattle.resource_lock.specs.GraphView.{GraphView}
use Rattle.planned_work.specs.Numbers.{IsUnitAt}
use Rattle.wakhurmi_c.specs.OutcomeCalls.{IsUntold}
use Rattle.wakhurmi_c.proofs.outcome_calls.unit_told.Goals as goal

pub returns-in_err-unit-clause-none : goal.returns-in_err-unit-clause-none
returns-in_err-unit-clause-none c =
    subst (λ r. IfNone r (IsUntold c.args.book.now c.args.place)) (sym c.from_residual.ensures)
    (inr (subst (λ (g : GraphView). (u : ℕ) → IsUnitAt g u c.args.place → ⊥) c.graph.ensures.value c.in_err-unit.ensures.none))
