use Rattle.std.proofs.Common.{take, map}
use Rattle.file_access.specs.PageView.{Adds}
use Rattle.history_text.specs.Text.{numbered}
use Rattle.history_text.specs.HistoryView.{entry_read}
use Rattle.run_picture.specs.Ticks.{marks_of}
use Rattle.run_picture.proofs.ticks.write_ticks.Given as goal

abbrev pub invariant-loop-place : goal.invariant-loop-place
invariant-loop-place g l = Adds (g.K.Sink.seen l.fn.sink) l.fn.page (g.K.Sink.seen l.sink) l.page (numbered (marks_of l.layout) l.layout.first (take l.place (map entry_read l.entries)))
