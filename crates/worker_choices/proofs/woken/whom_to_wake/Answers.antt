use Rattle.std.proofs.Common.{◌≡◌, ◌⊎◌, ◌+◌, inl, inr, ℕ, Some, arith, subst, sym}
use Rattle.std.specs.Prelude.{◌<◌, slice_get}
use Rattle.std.proofs.lemmas.Bool.{cases_eq}
use Rattle.worker_choices.specs.NextSteps.{Waits}
use Rattle.worker_choices.specs.declared.awaited.Awaited.{Awaited}
use Rattle.worker_choices.specs.declared.stances.Stance.TheVariants as stance
use Rattle.worker_choices.proofs.woken.whom_to_wake.Goals as goal

pub loop-worker-preserved : goal.loop-worker-preserved
loop-worker-preserved c = (λ w a low at. here w a low at (cases_eq w c.loop-worker.worker), c.sleeps_in_vain.ensures.found)
  where
    here : (w : ℕ) (a : Awaited) → w < c.loop-worker.worker + 1 → slice_get c.args.stances.now w ≡ Some (stance.Sleeps a) → (w ≡ c.loop-worker.worker) ⊎ (w ≡ c.loop-worker.worker → ⊥)
        → Waits c.args.book.now.graph (record { 0 = w }) c.args.book.now.state c.args.queued a
    here w a low at (inl same) =
        subst (λ (v : ℕ). Waits c.args.book.now.graph (record { 0 = v }) c.args.book.now.state c.args.queued a) (sym same)
        (c.sleeps_in_vain.ensures.no c.if-sleeps_in_vain.false a (subst (λ (v : ℕ). slice_get c.args.stances.now v ≡ Some (stance.Sleeps a)) same at))
    here w a low at (inr other) = c.loop-worker.invariant.0 w a (omega (arith, low, other)) at
