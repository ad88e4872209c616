use Rattle.std.proofs.Common.{◌+◌, arith}
use Rattle.history_text.specs.HistoryView.{entry_read}
use Rattle.run_picture.specs.Ticks.{marks_of}
use Rattle.run_picture.proofs.Next.{adds_viewed}
use Rattle.run_picture.proofs.ticks.write_ticks.Goals as goal

pub loop-place-preserved : goal.loop-place-preserved
loop-place-preserved g c =
    adds_viewed entry_read (marks_of c.args.layout.now) c.args.layout.now.first c.args.entries.now c.loop-place.place (c.from.result + c.loop-place.place) c.index-entries-place.result (omega (arith, c.from.ensures))
    c.loop-place-test.true c.index-entries-place.is c.loop-place.invariant c.write_marks.ensures
