use Rattle.std.proofs.Common.{bit_and}
use Rattle.item_actions.proofs.Vectors.{HasLanes-as}
use Rattle.item_actions.proofs.lanes.tabs.Goals as goal

pub returns : goal.returns
returns c = HasLanes-as _ _ _ c.both.ensures (λ k l i. bit_and (c.at_least.ensures.each k l i) (c.at_most.ensures.each k l i))
