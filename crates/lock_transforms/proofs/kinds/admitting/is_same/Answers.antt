use Rattle.std.proofs.lemmas.Bool.Decides.{Decides-at}
use Rattle.lock_transforms.proofs.SameChanges.{change_is}
use Rattle.lock_transforms.proofs.kinds.admitting.is_same.Goals as goal

pub returns : goal.returns
returns c = Decides-at _ _ c.eq.ensures (change_is c.args.made c.args.given)
