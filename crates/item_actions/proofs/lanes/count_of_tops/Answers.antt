use Rattle.std.proofs.Common.{leb, ap, ◌∙◌, arith}
use Rattle.std.specs.Int.RustNames.{count_ones}
use Rattle.std.proofs.lemmas.Simd.{ones-mask_l}
use Rattle.memchr.proofs.lemmas.LaneLemmas.{top_bitmask}
use Rattle.item_actions.proofs.lanes.count_of_tops.Goals as goal

pub returns : goal.returns
returns c = ap count_ones (top_bitmask c.args.lanes 32 c.fits-lanes.0 (omega arith)) ∙ ones-mask_l (leb 128) c.args.lanes
