use Rattle.std.proofs.Common.{◌≡◌, ◌+◌, ◌*◌, cond, get_or, count_by, length, ap, ◌∙◌, arith, rules, sym, true, false}
use Rattle.std.specs.List.{range_with_len}
use Rattle.item_actions.specs.Bytes.{begins_word, follows_space, word_count}
use Rattle.item_actions.proofs.Counts.{count_range-add, count_range-one, count_range-le}
use Rattle.item_actions.proofs.word_counts.count_of_words.Goals as goal
use Rattle.item_actions.proofs.word_counts.count_of_words.Goals.{then-begins_word, else-begins_word}

pub overflow_add-total : goal.overflow_add-total
overflow_add-total c =
    let before = count_range-le (begins_word c.args.bytes.now) 0 (32 * c.loop-block.block) in
    let here = count_range-le (begins_word c.args.bytes.now) (32 * c.loop-block.block) 32 in
    search rules

pub loop-block-preserved : goal.loop-block-preserved
loop-block-preserved c =
    let q = begins_word c.args.bytes.now in
    let n = 32 * c.loop-block.block in
    let e : n + 32 ≡ 32 * (c.loop-block.block + 1) = omega arith in
    let z : n ≡ 0 + n = omega arith in
    let before : c.loop-block.total ≡ count_by q (range_with_len 0 n) = c.loop-block.invariant.counted in
    let found : c.count_in_block-begun.result.0 ≡ count_by q (range_with_len n 32) = c.count_in_block-begun.ensures.counted in
    let last : get_or c.count_in_block-begun.result.1 31 0 ≡ cond (follows_space c.args.bytes.now (n + 32)) 255 0 = c.count_in_block-begun.ensures.last in
    record {
      counted = (λ i. before i + found i) ∙ ap (λ k. count_by q (range_with_len 0 n) + count_by q (range_with_len k 32)) z ∙ sym (count_range-add q 0 n 32) ∙ ap (λ k. count_by q (range_with_len 0 k)) e;
      last = last ∙ ap (λ k. cond (follows_space c.args.bytes.now k) 255 0) e;
    }

pub overflow_add-total-then-begins_word : goal.overflow_add-total-then-begins_word
overflow_add-total-then-begins_word c =
    let before = count_range-le (begins_word c.args.bytes.now) 0 c.loop-place.place in
    search rules

pub loop-place-preserved : goal.loop-place-preserved
loop-place-preserved c =
    let q = begins_word c.args.bytes.now in
    let n = c.loop-place.place in
    elim c.if-begins_word.branch [
      | then-begins_word w ↦
          let t : true ≡ q n = w.if-begins_word.ensures in
          w.total-is ∙ ap (λ k. k + 1) c.loop-place.invariant ∙ (λ i. count_by q (range_with_len 0 n) + cond (t i) 1 0) ∙ sym (count_range-one q n)
      | else-begins_word w ↦
          let t : false ≡ q n = w.if-begins_word.ensures in
          let z : count_by q (range_with_len 0 n) ≡ count_by q (range_with_len 0 n) + 0 = omega arith in
          w.total-is ∙ c.loop-place.invariant ∙ z ∙ (λ i. count_by q (range_with_len 0 n) + cond (t i) 1 0) ∙ sym (count_range-one q n)
    ]

pub returns : goal.returns
unfolding word_count
returns c =
    let e : c.loop-place.place ≡ length c.args.bytes.now = omega arith in
    c.loop-place.invariant ∙ ap (λ n. count_by (begins_word c.args.bytes.now) (range_with_len 0 n)) e
