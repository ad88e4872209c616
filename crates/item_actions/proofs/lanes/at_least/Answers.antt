use Rattle.std.proofs.Common.{cond, leb, get_or, replicate, sym, ap, subst, w8, refl}
use Rattle.memchr.proofs.lemmas.LaneLemmas.{HasLanes-compared}
use Rattle.memchr.specs.Lanes.{HasLanes}
use Rattle.std.proofs.lemmas.Simd.{tops_compared, get_or-replicate}
use Rattle.std.specs.Simd.Lanes.{sel_l}
use Rattle.item_actions.proofs.Vectors.{HasLanes-as}
use Rattle.item_actions.proofs.lanes.at_least.Goals as goal

pub returns : goal.returns
returns c =
    let v = c.args.lanes in
    let low = c.args.low in
    HasLanes-as _ _ _ (subst (λ ms. HasLanes (sel_l ms (replicate 32 255) (replicate 32 0)) (λ k. cond (leb (get_or (replicate 32 low) k 0) (get_or v k 0)) 255 0))
    (sym (tops_compared w8 leb (replicate 32 low) v)) (HasLanes-compared leb (replicate 32 low) v 255 0 refl c.fits-lanes.0))
    (λ k l. ap (λ n. cond (leb n (get_or v k 0)) 255 0) (get_or-replicate 32 k low 0 l))
