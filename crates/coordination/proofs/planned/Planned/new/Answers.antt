use Rattle.std.proofs.Common.{List, inr, subst, sym}
use Rattle.ready_work.specs.Choices.{has_queued}
use Rattle.worker_choices.specs.declared.stances.Stance.{Stance}
use Rattle.worker_notes.specs.SleepAndWake.{AreQuiet}
use Rattle.worker_notes.proofs.Sleeping.{none_sleeps}
use Rattle.coordination.proofs.planned.Planned.new.Goals as goal

-- all are away, so nobody sleeps
pub invariant_of-result : goal.invariant_of-result
invariant_of-result c =
    let guarded = c.in_ok-guarded.guarded in
    subst (λ (xs : List Stance). AreQuiet guarded.keeper (has_queued guarded.keeper.state) xs) (sym c.in_ok-guarded.ensures.away)
    (inr (λ w a low at. absurd (none_sleeps _ w a at)))
