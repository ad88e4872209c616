use Rattle.std.proofs.Common.{append_assoc}
use Rattle.file_access.proofs.lemmas.Telling.{adds_as, adds_then}
use Rattle.run_picture.proofs.picture.write_panel.Goals as goal

pub returns : goal.returns
returns g c = adds_as (simp append_assoc) (adds_then (adds_then (adds_then (adds_then (adds_then c.write_axis.ensures c.write_panel_curve.ensures) c.write_rows.ensures) c.write_panel_bars.ensures) c.write_panel_locks.ensures) c.write_edge.ensures)
