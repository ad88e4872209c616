use Rattle.std.proofs.Common.{subst}
use Rattle.item_actions.specs.NeedleMatches.{CountsOn}
use Rattle.item_actions.proofs.counted.count_on.Goals as goal

pub returns-in_default-clause-counted : goal.returns-in_default-clause-counted
returns-in_default-clause-counted c = subst (λ n. CountsOn n c.args.bytes.now c.find_each.result.0 c.find_each.result.1) c.bytes.ensures.bytes c.find_each.ensures.counted
