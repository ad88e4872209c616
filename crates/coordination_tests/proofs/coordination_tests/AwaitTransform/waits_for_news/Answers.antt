use Rattle.lock_transforms.proofs.lemmas.Waits.{waits_disabled}
use Rattle.lock_transforms.specs.declared.entries.Kind.TheVariants.{Start}
use Rattle.coordination_tests.proofs.coordination_tests.AwaitTransform.waits_for_news.Goals as goal

pub returns : goal.returns
returns c = waits_disabled (Start c.args.self.now.start.task) (λ _ _ _. ⊥)
