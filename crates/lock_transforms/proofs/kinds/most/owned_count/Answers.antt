use Rattle.std.proofs.Common.{sym, ◌∙◌, arith}
use Rattle.lock_transforms.proofs.Freed.{few_owned, length-owned}
use Rattle.lock_transforms.proofs.kinds.most.owned_count.Goals as goal

pub returns-clause-value : goal.returns-clause-value
returns-clause-value c = c.lock_count.ensures ∙ sym (length-owned c.args.state.now c.args.worker)

pub returns-clause-few : goal.returns-clause-few
returns-clause-few c = omega (arith, c.lock_count.ensures, length-owned c.args.state.now c.args.worker, few_owned c.args.state.now c.args.worker, c.requires.locks)
