use Rattle.std.proofs.Common.{◌≡◌}
use Rattle.lock_transforms.specs.declared.kinds.acquires.Shortage.TheVariants as shortages
use Rattle.shared_services.proofs.Waiting.{waits_for_uses}
use Rattle.shared_services.proofs.taking.TakeUsesTransform.waits_for_news.Goals as goal

pub returns : goal.returns
returns c = waits_for_uses c.args.self.now.table.now c.args.self.now.asked.now (c.args.self.now.shortage ≡ shortages.Waits) (c.args.self.now.shortage ≡ shortages.Fails)
