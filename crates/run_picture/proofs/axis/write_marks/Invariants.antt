use Rattle.std.specs.List.{flat_map, range_with_len}
use Rattle.file_access.specs.PageView.{Adds}
use Rattle.run_picture.specs.Axis.{nth_mark}
use Rattle.run_picture.proofs.axis.write_marks.Given as goal

abbrev pub invariant-loop-step : goal.invariant-loop-step
invariant-loop-step g l = Adds (g.K.Sink.seen l.fn.sink) l.fn.page (g.K.Sink.seen l.sink) l.page (flat_map (nth_mark l.layout) (range_with_len l.from l.step))
