use Rattle.std.proofs.Common.{take}
use Rattle.std.specs.List.{flat_map}
use Rattle.file_access.specs.PageView.{Adds}
use Rattle.run_picture.specs.LockRows.{lock_name}
use Rattle.picture_layout.specs.Panels.{panel_view}
use Rattle.run_picture.proofs.lock_rows.write_lock_names.Given as goal

abbrev pub invariant-loop-lock : goal.invariant-loop-lock
invariant-loop-lock g l = Adds (g.K.Sink.seen l.fn.sink) l.fn.page (g.K.Sink.seen l.sink) l.page (flat_map (lock_name (panel_view l.panel)) (take l.lock-index l.panel.locks.items))
