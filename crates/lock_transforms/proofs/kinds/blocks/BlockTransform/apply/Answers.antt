use Rattle.lock_transforms.proofs.SetDown.{not_to_block}
use Rattle.lock_transforms.proofs.kinds.blocks.BlockTransform.apply.Goals as goal

pub returns-clause-retry : goal.returns-clause-retry
returns-clause-retry c = λ retry in_range. not_to_block c.args.work.now c.args.self.now.unit (c.finish_or_retry.ensures.sound retry in_range) in_range (c.finish_or_retry.ensures.disabled retry in_range)
