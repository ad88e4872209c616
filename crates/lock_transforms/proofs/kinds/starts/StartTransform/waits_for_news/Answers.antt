use Rattle.std.proofs.Common.{inl}
use Rattle.lock_transforms.proofs.kinds.starts.StartTransform.waits_for_news.Goals as goal

pub returns : goal.returns
returns c = λ g s v w change belongs good from own other named possible quiet out. inl out
