use Rattle.std.proofs.Common.{take, map}
use Rattle.file_access.specs.PageView.{Adds}
use Rattle.history_text.specs.Text.{numbered}
use Rattle.run_picture.specs.Overview.{band_text}
use Rattle.picture_layout.specs.Panels.{panel_view}
use Rattle.run_picture.proofs.overview_axis.write_strip.Given as goal

abbrev pub invariant-loop-place : goal.invariant-loop-place
invariant-loop-place g l = Adds (g.K.Sink.seen l.fn.sink) l.fn.page (g.K.Sink.seen l.sink) l.page (numbered (band_text l.size) 1 (take l.place (map panel_view l.panels)))
