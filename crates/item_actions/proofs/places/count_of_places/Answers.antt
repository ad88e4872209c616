use Rattle.std.proofs.Common.{◌≡◌, ◌+◌, ◌*◌, true, false, cond, count_by, ap, ◌∙◌, arith, rules, sym}
use Rattle.std.specs.List.{range_with_len}
use Rattle.memchr.specs.Find.{occurs_at}
use Rattle.item_actions.proofs.Counts.{count_range-add, count_range-one, count_range-le}
use Rattle.item_actions.proofs.NoOverlap.{occurrences-places}
use Rattle.item_actions.proofs.places.count_of_places.Goals as goal
use Rattle.item_actions.proofs.places.count_of_places.Goals.{then-occurs_at, else-occurs_at}

pub overflow_add-total : goal.overflow_add-total
overflow_add-total c =
    let before = count_range-le (occurs_at c.args.bytes.now c.args.needle.now) 0 (32 * c.loop-block.block) in
    let here = count_range-le (occurs_at c.args.bytes.now c.args.needle.now) (32 * c.loop-block.block) 32 in
    search rules

pub loop-block-preserved : goal.loop-block-preserved
loop-block-preserved c =
    let q = occurs_at c.args.bytes.now c.args.needle.now in
    let n = 32 * c.loop-block.block in
    let next : n + 32 ≡ 32 * (c.loop-block.block + 1) = omega arith in
    let place : n ≡ 0 + n = omega arith in
    (λ i. c.loop-block.invariant i + c.count_in_block.ensures i)
    ∙ ap (λ k. count_by q (range_with_len 0 n) + count_by q (range_with_len k 32)) place
    ∙ sym (count_range-add q 0 n 32)
    ∙ ap (λ k. count_by q (range_with_len 0 k)) next

pub overflow_add-total-then-occurs_at : goal.overflow_add-total-then-occurs_at
overflow_add-total-then-occurs_at c =
    let before = count_range-le (occurs_at c.args.bytes.now c.args.needle.now) 0 c.loop-place.place in
    search rules

pub loop-place-preserved : goal.loop-place-preserved
loop-place-preserved c =
    let q = occurs_at c.args.bytes.now c.args.needle.now in
    let n = c.loop-place.place in
    elim c.if-occurs_at.branch [
      | then-occurs_at w ↦
          let found : true ≡ q n = w.if-occurs_at.ensures in
          w.total-is ∙ ap (λ k. k + 1) c.loop-place.invariant ∙ (λ i. count_by q (range_with_len 0 n) + cond (found i) 1 0) ∙ sym (count_range-one q n)
      | else-occurs_at w ↦
          let missing : false ≡ q n = w.if-occurs_at.ensures in
          let same : count_by q (range_with_len 0 n) ≡ count_by q (range_with_len 0 n) + 0 = omega arith in
          w.total-is ∙ c.loop-place.invariant ∙ same ∙ (λ i. count_by q (range_with_len 0 n) + cond (missing i) 1 0) ∙ sym (count_range-one q n)
    ]

pub returns : goal.returns
returns c =
    let bytes = c.args.bytes.now in
    let needle = c.args.needle.now in
    c.loop-place.invariant ∙ sym (occurrences-places bytes needle c.requires.alone c.loop-place.place (omega arith))
