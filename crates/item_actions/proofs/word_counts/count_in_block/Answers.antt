use Rattle.std.proofs.Common.{◌+◌, ◌-◌, leb, eqb, cond, get_or, count_by, ap, ◌∙◌, arith, bit_and, bit_xor}
use Rattle.std.specs.List.{range_with_len}
use Rattle.memchr.specs.Lanes.{HasLanes}
use Rattle.item_actions.specs.Bytes.{is_space, begins_word}
use Rattle.item_actions.proofs.Vectors.{HasLanes-as, begins_lane, follows_last}
use Rattle.item_actions.proofs.Counts.{count_lanes}
use Rattle.item_actions.proofs.word_counts.count_in_block.Goals as goal

pub returns : goal.returns
returns c =
    let b = c.args.bytes.now in
    let at = c.args.at in
    let here : HasLanes c.spaces-here.result (λ k. cond (is_space (get_or b (at + k) 0)) 255 0) =
    HasLanes-as _ _ _ c.spaces-here.ensures (λ k l. ap (λ x. cond (is_space x) 255 0) (c.load.ensures.each k l)) in
    let lanes : HasLanes c.both-begins.result (λ k. bit_and (cond (eqb k 0) (get_or c.args.before 31 0) (get_or c.spaces-here.result (k - 1) 0)) (bit_xor (get_or c.spaces-here.result k 0) 255)) =
    HasLanes-as _ _ _ c.both-begins.ensures (λ k l i. bit_and (c.later.ensures.each k l i) (c.flipped.ensures.each k l i)) in
    record {
      counted = c.count_of_tops.ensures
          ∙ count_lanes (leb 128) (begins_word b) c.both-begins.result at (λ k l. ap (leb 128) (lanes.each k (omega (arith, lanes.long))) ∙ begins_lane b c.args.before c.spaces-here.result at c.requires.last here k (omega (arith, lanes.long)))
          ∙ ap (λ n. count_by (begins_word b) (range_with_len at n)) lanes.long;
      last = here.each 31 (omega arith) ∙ follows_last b at;
    }
