use Rattle.std.proofs.Common.{◌≡◌}
use Rattle.lock_transforms.specs.declared.kinds.acquires.Shortage.TheVariants as shortages
use Rattle.lock_transforms.proofs.Taken.{waits_acquire}
use Rattle.lock_transforms.proofs.kinds.acquires.AcquireTransform.waits_for_news.Goals as goal

pub returns : goal.returns
returns c = waits_acquire (c.args.self.now.shortage ≡ shortages.Waits) (c.args.self.now.shortage ≡ shortages.Fails) c.args.self.now.locks.now
