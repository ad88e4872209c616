use Rattle.lock_transforms.specs.declared.entries.Kind.TheVariants as kinds
use Rattle.lock_transforms.proofs.lemmas.Waits.{waits_disabled}
use Rattle.lock_transforms.proofs.kinds.parks.ParkTransform.waits_for_news.Goals as goal

pub returns : goal.returns
returns c = waits_disabled (kinds.Park c.args.self.now.action) (λ g w s. ⊥)
