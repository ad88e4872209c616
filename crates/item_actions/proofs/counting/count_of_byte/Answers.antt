use Rattle.std.proofs.Common.{◌≡◌, ◌==◌, ◌+◌, ◌*◌, ◌/◌, take_all, le_refl, count_by, length, take, ap, ◌∙◌, arith, sym}
use Rattle.item_actions.proofs.Counts.{count_take-more}
use Rattle.item_actions.proofs.counting.count_of_byte.Goals as goal

pub loop-block-preserved : goal.loop-block-preserved
loop-block-preserved c =
    let bytes = c.args.bytes.now in
    let at = 32 * c.loop-block.block in
    let next : at + 32 ≡ 32 * (c.loop-block.block + 1) = omega arith in
    (λ i. c.loop-block.invariant i + c.count_in_block.ensures i)
    ∙ sym (count_take-more (λ b. b == c.args.byte) bytes at (at + 32) (omega arith))
    ∙ ap (λ k. count_by (λ b. b == c.args.byte) (take k bytes)) next

pub returns : goal.returns
returns c =
    let bytes = c.args.bytes.now in
    let at = 32 * (length bytes / 32) in
    let last : c.loop-block.block ≡ length bytes / 32 = omega arith in
    let before : c.loop-block.total ≡ count_by (λ b. b == c.args.byte) (take at bytes) = c.loop-block.invariant ∙ ap (λ k. count_by (λ b. b == c.args.byte) (take (32 * k) bytes)) last in
    (λ i. before i + c.count_one_by_one.ensures i)
    ∙ sym (count_take-more (λ b. b == c.args.byte) bytes at (length bytes) (omega arith))
    ∙ ap (count_by (λ b. b == c.args.byte)) (take_all _ _ (le_refl (length bytes)))
