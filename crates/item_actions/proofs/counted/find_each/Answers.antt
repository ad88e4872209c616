use Rattle.std.proofs.Common.{refl, arith}
use Rattle.item_actions.proofs.NeedleCounts.{counts_last, counts_next}
use Rattle.item_actions.proofs.counted.find_each.Goals as goal

pub loop-place-preserved : goal.loop-place-preserved
loop-place-preserved c =
    let laws = c.counting_goes_on_behind_the_first.ensures in
    let loop = c.loop-place in
    record {
      counted = counts_next c.args.needle.now c.requires laws.nowhere laws.first c.args.bytes.now _ _ loop.found loop.end c.in-Some.place loop.invariant.counted refl c.new-finder.ensures c.in-Some.ensures;
      few = omega (arith, loop.invariant.few, c.requires);
    }

pub returns-clause-counted : goal.returns-clause-counted
returns-clause-counted c =
    let laws = c.counting_goes_on_behind_the_first.ensures in
    let loop = c.loop-place in
    counts_last c.args.needle.now c.requires laws.nowhere laws.first c.args.bytes.now _ _ loop.found loop.end _ _ loop.invariant.counted refl c.new-finder.ensures c.in_default.ensures
    c.saturating_sub-tail_start.ensures c.max.ensures
