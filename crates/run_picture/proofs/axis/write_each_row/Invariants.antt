use Rattle.std.specs.List.{flat_map, range_with_len}
use Rattle.file_access.specs.PageView.{Adds}
use Rattle.run_picture.specs.Axis.{row_text}
use Rattle.run_picture.proofs.axis.write_each_row.Given as goal

abbrev pub invariant-loop-worker : goal.invariant-loop-worker
invariant-loop-worker g l = Adds (g.K.Sink.seen l.fn.sink) l.fn.page (g.K.Sink.seen l.sink) l.page (flat_map (row_text l.layout) (range_with_len 0 l.worker))
