use Rattle.std.proofs.Common.{rules}
use Rattle.daemon_desk.proofs.Supplies.{takes_behind}
use Rattle.daemon_desk.proofs.taking.take_more.Goals as goal

pub returns : goal.returns
returns g c =
    let taken = c.in_ok-count.ensures in
    takes_behind _ _ _ _ _ _ _ _ (search rules) c.truncate.ensures.items c.in_ok-resize.ensures.items taken.front (search rules) (search rules) taken.ok taken.faults taken.end
