use Rattle.std.proofs.Common.{bit_xor, get_or, replicate, ap, refl}
use Rattle.std.proofs.lemmas.Simd.{get_or-replicate}
use Rattle.memchr.proofs.lemmas.LaneLemmas.{HasLanes-zip2}
use Rattle.item_actions.proofs.Vectors.{HasLanes-as}
use Rattle.item_actions.proofs.lanes.flipped.Goals as goal

pub returns : goal.returns
returns c = HasLanes-as _ _ _ (HasLanes-zip2 bit_xor c.args.lanes (replicate 32 255) c.fits-lanes.0 refl) (λ k l. ap (bit_xor (get_or c.args.lanes k 0)) (get_or-replicate 32 k 255 0 l))
