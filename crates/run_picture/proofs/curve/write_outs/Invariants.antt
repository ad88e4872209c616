use Rattle.std.proofs.Common.{take}
use Rattle.file_access.specs.PageView.{Adds}
use Rattle.history_text.specs.Text.{numbered}
use Rattle.run_picture.specs.Curve.{out_stair}
use Rattle.run_picture.proofs.curve.write_outs.Given as goal

abbrev pub invariant-loop-place : goal.invariant-loop-place
invariant-loop-place g l = Adds (g.K.Sink.seen l.fn.sink) l.fn.page (g.K.Sink.seen l.sink) l.page (numbered (out_stair l.layout l.top) l.layout.first (take l.place l.levels))
