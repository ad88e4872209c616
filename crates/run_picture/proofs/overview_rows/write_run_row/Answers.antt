use Rattle.std.proofs.Common.{ℕ, ◌-◌, ◌++◌, ap, codes}
use Rattle.file_access.proofs.lemmas.Telling.{adds_as, adds_then}
use Rattle.picture_layout.specs.Columns.{row_view}
use Rattle.run_picture.specs.Overview.{run_name, leased_text, engaged_text, run_row_text}
use Rattle.run_picture.specs.Shapes.{across}
use Rattle.run_picture.proofs.overview_rows.write_run_row.Goals as goal

pub returns : goal.returns
unfolding run_row_text
returns g c =
    let w = c.args.worker in
    let v = row_view c.args.row.now in
    adds_as (ap (λ (y : ℕ). run_name c.args.rows.workers w (y - 1) ++ across (codes "f") 76 y c.args.rows.right ++ engaged_text w y v.engaged c.args.rows.count
    ++ leased_text w y v.leased c.args.rows.count) c.run_foot-foot.ensures.is)
    (adds_then (adds_then (adds_then c.write_run_name.ensures c.write_across.ensures) c.write_engaged.ensures) c.write_leased.ensures)
