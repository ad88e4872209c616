use Rattle.std.proofs.Common.{ap, arith, length}
use Rattle.item_actions.proofs.NeedleCounts.{counts_alone}
use Rattle.item_actions.proofs.counted.count_alone.Goals as goal

pub returns-clause-counted : goal.returns-clause-counted
returns-clause-counted c =
    let laws = c.counting_goes_on_behind_the_first.ensures in
    let same = ap length c.bytes.ensures.bytes in
    counts_alone c.args.needle.now (omega (arith, same, c.bytes.ensures.some)) laws.nowhere laws.first c.requires c.args.bytes.now _ _ c.needles_in.ensures
    (omega (arith, same, c.saturating_sub-tail_start.ensures))
