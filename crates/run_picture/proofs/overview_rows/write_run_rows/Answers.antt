use Rattle.std.proofs.Common.{arith}
use Rattle.picture_layout.specs.Columns.{row_view}
use Rattle.run_picture.specs.Overview.{run_row_text}
use Rattle.run_picture.proofs.Next.{adds_viewed}
use Rattle.run_picture.proofs.overview_rows.write_run_rows.Goals as goal

pub loop-place-preserved : goal.loop-place-preserved
loop-place-preserved g c =
    adds_viewed row_view (run_row_text c.args.rows.workers c.args.rows.right c.args.rows.count) 0 c.args.each.now c.loop-place.place c.loop-place.place c.index-each-place.result (omega arith)
    c.loop-place-test.true c.index-each-place.is c.loop-place.invariant c.write_run_row.ensures
