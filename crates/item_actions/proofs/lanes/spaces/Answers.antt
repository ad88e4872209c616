use Rattle.std.proofs.Common.{bit_or, ◌∙◌}
use Rattle.item_actions.proofs.Vectors.{HasLanes-as, space_lane}
use Rattle.item_actions.proofs.lanes.spaces.Goals as goal

pub returns : goal.returns
returns c = HasLanes-as _ _ _ c.either.ensures (λ k l. (λ i. bit_or (c.equal_to.ensures.each k l i) (c.tabs.ensures.each k l i)) ∙ space_lane _ _ _)
