use Rattle.std.proofs.Common.{ℕ, sym, subst, ◌∙◌}
use Rattle.std.proofs.lemmas.Bool.{both_ways}
use Rattle.resource_lock.proofs.FitParts.{NumbersFit, fits_from, numbers_of, tasks_of, ranges_of}
use Rattle.resource_lock.proofs.graphs.Graph.fits.Goals as goal
use Rattle.resource_lock.proofs.graphs.Graph.fits.Goals.{then-numbers_fit, else-numbers_fit}

pub returns-then-tasks_fit : goal.returns-then-tasks_fit
returns-then-tasks_fit c = elim c.if-numbers_fit.branch [
  | then-numbers_fit w ↦ (
    λ ranges. fits_from _ _ _ _ _ _ _ c.rows.ensures (subst (λ (n : ℕ). NumbersFit c.args.locks c.args.all c.args.workers c.args.max_leases n) c.len.ensures (c.numbers_fit.ensures.0 w.if-numbers_fit.true)) (w.tasks_fit.ensures.0 (sym w.value-is ∙ c.if-tasks_fit.true)) (c.ranges_fit.ensures.0 ranges),
    λ fits. c.ranges_fit.ensures.1 (ranges_of _ _ _ _ _ _ _ c.rows.ensures fits),
  )
  | else-numbers_fit w ↦ absurd (both_ways c.if-numbers_fit.value (w.value-is ∙ w.if-numbers_fit.false) c.if-tasks_fit.true)
]

pub returns-else-tasks_fit : goal.returns-else-tasks_fit
returns-else-tasks_fit c = elim c.if-numbers_fit.branch [
  | then-numbers_fit w ↦ (
    λ holds. absurd (both_ways c.if-numbers_fit.value c.if-tasks_fit.false holds),
    λ fits. w.value-is ∙ w.tasks_fit.ensures.1 (tasks_of _ _ _ _ _ _ fits),
  )
  | else-numbers_fit w ↦ (
    λ holds. absurd (both_ways c.if-numbers_fit.value c.if-tasks_fit.false holds),
    λ fits. w.value-is ∙ c.numbers_fit.ensures.1 (subst (λ (n : ℕ). NumbersFit c.args.locks c.args.all c.args.workers c.args.max_leases n) (sym c.len.ensures) (numbers_of _ _ _ _ _ _ fits)),
  )
]
