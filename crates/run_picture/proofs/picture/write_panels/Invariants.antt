use Rattle.std.proofs.Common.{take, map, length}
use Rattle.file_access.specs.PageView.{Adds}
use Rattle.history_text.specs.Text.{numbered}
use Rattle.history_text.specs.HistoryView.{history_view}
use Rattle.picture_layout.specs.Panels.{panel_view}
use Rattle.run_picture.specs.Picture.{panel_with_heading}
use Rattle.run_picture.proofs.picture.write_panels.Given as goal

abbrev pub invariant-loop-place : goal.invariant-loop-place
invariant-loop-place g l = Adds (g.K.Sink.seen l.fn.sink) l.fn.page (g.K.Sink.seen l.sink) l.page
    (numbered (panel_with_heading (history_view l.history) l.levels (length (map panel_view l.panels))) 1 (take l.place (map panel_view l.panels)))
