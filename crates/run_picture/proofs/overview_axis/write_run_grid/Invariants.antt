use Rattle.std.proofs.Common.{◌*◌}
use Rattle.std.specs.List.{flat_map, range_with_len}
use Rattle.file_access.specs.PageView.{Adds}
use Rattle.run_picture.specs.Overview.{run_mark, run_distance}
use Rattle.run_picture.proofs.overview_axis.write_run_grid.Given as goal

abbrev pub invariant-loop-place : goal.invariant-loop-place
invariant-loop-place g l =
    Adds (g.K.Sink.seen l.fn.sink) l.fn.page (g.K.Sink.seen l.sink) l.page (flat_map (λ i. run_mark l.size l.right l.bottom (i * run_distance l.size)) (range_with_len 1 l.place))
