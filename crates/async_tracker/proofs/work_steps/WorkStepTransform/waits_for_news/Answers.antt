use Rattle.std.proofs.Common.{Some, inl}
use Rattle.lock_transforms.specs.GoingOn.{WaitsForNews}
use Rattle.lock_transforms.specs.declared.entries.Kind.TheVariants as kinds
use Rattle.lock_transforms.proofs.lemmas.Waits.{waits_disabled, waits_queued, waits_unmet}
use Rattle.async_tracker.specs.WorkSteps.{FailsAt, RetriesAt}
use Rattle.async_tracker.specs.declared.work_steps.WorkStep.{WorkStep}
use Rattle.async_tracker.specs.declared.work_steps.WorkStep.TheVariants.{Start, Skip, Claim, Resume, Fetch, Submit, Park, End}
use Rattle.async_tracker.proofs.work_steps.WorkStepTransform.waits_for_news.Goals as goal

-- each as its transform
waits : (step : WorkStep) → WaitsForNews (RetriesAt step) (FailsAt step)
waits (Start t) = λ g s v w change belongs good from own other named possible quiet out. inl out
waits (Skip t) = λ g s v w change belongs good from own other named possible quiet out. inl out
waits (Claim u) = waits_queued u
waits (Resume a) = waits_disabled (kinds.Resume a) (λ g w s. ⊥)
waits (Fetch u) = waits_unmet (kinds.Block (Some u)) (λ g w s. ⊥)
waits (Submit a) = waits_disabled (kinds.Submit a) (λ g w s. ⊥)
waits (Park a) = waits_disabled (kinds.Park a) (λ g w s. ⊥)
waits (End t) = waits_disabled (kinds.End t) (λ g w s. ⊥)

pub returns : goal.returns
returns c = waits c.args.self.now
