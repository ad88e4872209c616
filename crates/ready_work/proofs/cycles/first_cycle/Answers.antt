use Rattle.ready_work.specs.Rank.{lists_of}
use Rattle.ready_work.proofs.First.{first_from_marks}
use Rattle.ready_work.proofs.cycles.first_cycle.Goals as goal

pub returns : goal.returns
returns c = first_from_marks (lists_of c.args.rows.now) c.in_ok-marks.marks.items c.first_without_mark-first.result c.in_ok-marks.ensures (rw c.as_slice.ensures.value at c.first_without_mark-first.ensures)
