use Rattle.lock_transforms.proofs.Freed.{not_to_hand_back}
use Rattle.lock_transforms.proofs.kinds.hand_backs.HandBackTransform.apply.Goals as goal

pub returns-clause-retry : goal.returns-clause-retry
returns-clause-retry c = λ retry in_range. not_to_hand_back c.args.work.now.graph c.args.work.now.state c.args.work.now.worker (c.finish_or_retry.ensures.disabled retry in_range)
