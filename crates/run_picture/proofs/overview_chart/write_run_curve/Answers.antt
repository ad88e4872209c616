use Rattle.std.proofs.Common.{ℕ, List, ◌++◌, ap, ap₂}
use Rattle.file_access.proofs.lemmas.Telling.{adds_as, adds_then}
use Rattle.run_picture.specs.Curve.{scale_text}
use Rattle.run_picture.specs.Overview.{run_layout, run_leases, run_queue, run_curve}
use Rattle.picture_layout.specs.declared.layout.Layout.{Layout}
use Rattle.run_picture.proofs.overview_chart.write_run_curve.Goals as goal

pub returns : goal.returns
unfolding run_curve
returns g c =
    let scale = scale_text (run_layout c.args.run.workers c.args.overview.now.columns) c.args.run.max c.args.run.peaks in
    adds_as (ap₂ (λ (out queued : List ℕ). run_leases out ++ run_queue queued ++ scale) c.deref.ensures.value c.deref-2.ensures.value)
    (adds_then (adds_then c.write_run_leases.ensures c.write_run_queue.ensures)
    (adds_as (ap (λ (f : Layout). scale_text f c.args.run.max c.args.run.peaks) c.run_layout-layout.ensures) c.write_scale.ensures))
