use Rattle.lock_transforms.proofs.lemmas.Waits.{waits_queued}
use Rattle.lock_transforms.proofs.kinds.claims.ClaimTransform.waits_for_news.Goals as goal

pub returns : goal.returns
returns c = waits_queued c.args.self.now.unit
