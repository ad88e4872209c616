use Rattle.lock_transforms.specs.declared.entries.Kind.TheVariants as kinds
use Rattle.lock_transforms.proofs.lemmas.Waits.{waits_unmet}
use Rattle.lock_transforms.proofs.kinds.hand_backs.HandBackTransform.waits_for_news.Goals as goal

pub returns : goal.returns
returns c = waits_unmet kinds.HandBack (λ g w s. ⊥)
