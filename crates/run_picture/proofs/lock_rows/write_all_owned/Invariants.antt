use Rattle.std.proofs.Common.{take}
use Rattle.std.specs.List.{flat_map}
use Rattle.file_access.specs.PageView.{Adds}
use Rattle.run_picture.specs.LockRows.{owned_where}
use Rattle.picture_layout.specs.Panels.{panel_view}
use Rattle.run_picture.proofs.lock_rows.write_all_owned.Given as goal

abbrev pub invariant-loop-span : goal.invariant-loop-span
invariant-loop-span g l = Adds (g.K.Sink.seen l.fn.sink) l.fn.page (g.K.Sink.seen l.sink) l.page (flat_map (owned_where (panel_view l.panel)) (take l.span-index l.panel.shown.items))
