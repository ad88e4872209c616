use Rattle.item_actions.proofs.Vectors.{later_lanes}
use Rattle.item_actions.proofs.lanes.later.Goals as goal

pub returns : goal.returns
returns c = later_lanes c.args.before c.args.here c.fits-before.0 c.fits-here.0
