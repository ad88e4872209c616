use Rattle.std.proofs.Common.{take, map}
use Rattle.file_access.specs.PageView.{Adds}
use Rattle.history_text.specs.Text.{numbered}
use Rattle.picture_layout.specs.Columns.{row_view}
use Rattle.run_picture.specs.Overview.{run_row_text}
use Rattle.run_picture.proofs.overview_rows.write_run_rows.Given as goal

abbrev pub invariant-loop-place : goal.invariant-loop-place
invariant-loop-place g l = Adds (g.K.Sink.seen l.fn.sink) l.fn.page (g.K.Sink.seen l.sink) l.page (numbered (run_row_text l.rows.workers l.rows.right l.rows.count) 0 (take l.place (map row_view l.each)))
