use Rattle.std.proofs.Common.{bit_and}
use Rattle.memchr.proofs.lemmas.LaneLemmas.{HasLanes-zip2}
use Rattle.item_actions.proofs.lanes.both.Goals as goal

pub returns : goal.returns
returns c = HasLanes-zip2 bit_and c.args.left c.args.right c.fits-left.0 c.fits-right.0
