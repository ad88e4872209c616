use Rattle.std.proofs.Common.{ℕ, ◌+◌, ◌*◌, ◌++◌, ap₂, ◌∙◌, codes}
use Rattle.file_access.proofs.lemmas.Telling.{adds_as, adds_then}
use Rattle.run_picture.specs.Overview.{run_grid, run_axis}
use Rattle.run_picture.specs.Shapes.{label}
use Rattle.run_picture.proofs.overview_chart.write_run_axis.Goals as goal

pub returns : goal.returns
unfolding run_axis
returns g c =
    let size = c.args.overview.now.columns.size in
    let bottom = ap₂ (λ (w h : ℕ). 186 + w * h) c.from.ensures (c.from-2.ensures ∙ c.run_row_height.ensures.is) in
    adds_as (ap₂ (λ (r b : ℕ). label (codes "e") 70 178 (codes "entry") ++ run_grid size r b c.args.run.count) c.right_of.ensures bottom)
    (adds_then c.write_label.ensures c.write_run_grid.ensures)
