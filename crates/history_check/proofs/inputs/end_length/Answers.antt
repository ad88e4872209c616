use Rattle.std.proofs.Common.{◌+◌, sym, ap, ◌∙◌}
use Rattle.history_check.proofs.EndLines.{end_long}
use Rattle.history_check.proofs.inputs.end_length.Goals as goal

pub returns : goal.returns
returns c =
    ap (λ t. 5 + t + 1) c.unwrap_or-tens.ensures
    ∙ sym (end_long c.args.count c.checked_ilog10.result c.ranges.count.fits c.checked_ilog10.ensures.none c.checked_ilog10.ensures.power_le c.checked_ilog10.ensures.next_power_gt)
