use Rattle.std.proofs.Common.{◌≡◌, ◌∙◌, ap, sym, arith, count_by}
use Rattle.std.specs.Int.RustNames.{count_ones}
use Rattle.std.specs.List.{range_with_len}
use Rattle.std.proofs.lemmas.Simd.{ones-mask_l}
use Rattle.item_actions.specs.Bytes.{agrees}
use Rattle.item_actions.proofs.Agreement.{counted_whole, counted_none}
use Rattle.item_actions.proofs.places.count_in_block.Goals as goal
use Rattle.item_actions.proofs.places.count_in_block.Goals.{then-loop-places-test+else-agreed-needle, else-loop-places-test}

pub returns : goal.returns
unfolding count_ones
returns c =
    let bytes = c.args.bytes.now in
    let needle = c.args.needle.now in
    let n = c.loop-places.agreed in
    let counted : count_ones c.loop-places.places ≡ count_by (agrees bytes needle n) (range_with_len c.args.at 32) = ap count_ones c.loop-places.invariant.mask ∙ ones-mask_l (agrees bytes needle n) (range_with_len c.args.at 32) in
    elim c.loop-places-test.branch [
      | then-loop-places-test+else-agreed-needle w ↦ counted ∙ counted_whole bytes needle c.args.at n c.requires.room (omega (arith, w.if-agreed-needle.false)) c.loop-places.invariant.within
      | else-loop-places-test w ↦
          let zero : c.loop-places.places ≡ 0 = omega (arith, w.loop-places-test.false) in
          let none : count_ones c.loop-places.places ≡ 0 = ap count_ones zero in
          none ∙ counted_none bytes needle c.args.at n c.requires.room c.loop-places.invariant.within (sym counted ∙ none)
    ]
