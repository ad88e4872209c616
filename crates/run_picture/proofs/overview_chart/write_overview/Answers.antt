use Rattle.std.proofs.Common.{ℕ, List, length, map, ap, ap₂, ◌∙◌, arith}
use Rattle.file_access.proofs.lemmas.Telling.{adds_as, adds_then}
use Rattle.picture_layout.specs.Columns.{RunRowView, row_view}
use Rattle.run_picture.specs.Overview.{run_right, run_rows_text, overview_text}
use Rattle.picture_layout.specs.Overview.{run_view}
use Rattle.run_picture.proofs.overview_chart.write_overview.Goals as goal

pub returns : goal.returns
unfolding overview_text
returns g c =
    let v = run_view c.args.overview.now in
    let workers = c.args.run.workers in
    let shown = ap (map row_view) c.deref.ensures.value in
    let rows =
    ap₂ (λ (r n : ℕ). run_rows_text workers r n (map row_view c.deref.result.now)) c.right_of.ensures c.from.ensures
    ∙ ap (λ (rs : List RunRowView). run_rows_text workers (run_right v) c.args.run.count rs) shown in
    adds_then (adds_then (adds_then (adds_then c.write_label.ensures c.write_strip.ensures) c.write_run_axis.ensures) c.write_run_curve.ensures)
    (adds_as rows c.write_run_rows.ensures)

pub write_run_rows-requires : goal.write_run_rows-requires
write_run_rows-requires g c = omega (arith, ap length c.deref.ensures.value, c.args.overview.now.rows_few)
