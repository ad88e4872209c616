use Rattle.std.proofs.Common.{take, map}
use Rattle.std.specs.List.{flat_map}
use Rattle.file_access.specs.PageView.{Adds}
use Rattle.history_text.specs.HistoryView.{entry_read}
use Rattle.run_picture.specs.Layers.{bar_text}
use Rattle.run_picture.proofs.worker_bars.write_layer.Given as goal

abbrev pub invariant-loop-span : goal.invariant-loop-span
invariant-loop-span g l = Adds (g.K.Sink.seen l.fn.sink) l.fn.page (g.K.Sink.seen l.sink) l.page (flat_map (bar_text l.layer l.layout (map entry_read l.entries)) (take l.span-index l.shown))
