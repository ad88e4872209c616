use Rattle.std.proofs.Common.{◌∙◌, sym, arith}
use Rattle.item_actions.proofs.Longest.{step, last_piece}
use Rattle.item_actions.proofs.pieces.longest_piece.Goals as goal

pub overflow_sub-end : goal.overflow_sub-end
overflow_sub-end c = (step c.args.bytes.now c.loop-end.from c.in-Some.end c.next.new.self c.loop-end.invariant.within (sym c.in-Some.ensures.steps ∙ c.loop-end.invariant.ends)).low

pub overflow_add-from : goal.overflow_add-from
overflow_add-from c =
    let next = step c.args.bytes.now c.loop-end.from c.in-Some.end c.next.new.self c.loop-end.invariant.within (sym c.in-Some.ensures.steps ∙ c.loop-end.invariant.ends) in
    omega (arith, next.high)

pub loop-end-preserved : goal.loop-end-preserved
loop-end-preserved c =
    let next = step c.args.bytes.now c.loop-end.from c.in-Some.end c.next.new.self c.loop-end.invariant.within (sym c.in-Some.ensures.steps ∙ c.loop-end.invariant.ends) in
    record {
      within = omega (arith, next.high);
      ends = next.rest;
      so_far = omega (arith, c.loop-end.invariant.so_far, next.longest_is, c.max-best.ensures);
    }

pub returns : goal.returns
returns c =
    let last = last_piece c.args.bytes.now c.loop-end.from c.loop-end.invariant.within (sym c.in-None.ensures.steps.0 ∙ c.loop-end.invariant.ends) in
    omega (arith, last, c.loop-end.invariant.so_far, c.max.ensures)
