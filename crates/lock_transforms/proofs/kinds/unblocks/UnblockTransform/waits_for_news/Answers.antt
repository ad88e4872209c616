use Rattle.lock_transforms.specs.declared.entries.Kind.TheVariants as kinds
use Rattle.lock_transforms.proofs.lemmas.Waits.{waits_disabled}
use Rattle.lock_transforms.proofs.kinds.unblocks.UnblockTransform.waits_for_news.Goals as goal

pub returns : goal.returns
returns c = waits_disabled (kinds.Unblock c.args.self.now.closed) (λ g w s. ⊥)
