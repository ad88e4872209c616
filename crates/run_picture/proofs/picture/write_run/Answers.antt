use Rattle.std.proofs.Common.{ℕ, map, ap₂}
use Rattle.file_access.proofs.lemmas.Telling.{adds_as}
use Rattle.run_picture.specs.Overview.{overview_text}
use Rattle.picture_layout.specs.Overview.{run_view}
use Rattle.picture_layout.specs.Panels.{panel_view}
use Rattle.run_picture.specs.Picture.{run_text}
use Rattle.picture_layout.specs.declared.totals.Peaks.{Peaks}
use Rattle.run_picture.proofs.picture.write_run.Goals as goal

pub returns : goal.returns
unfolding run_text
returns g c =
    let h = c.args.history.now in
    let shown = ap₂ (λ (p : Peaks) (n : ℕ). overview_text h.workers h.max p n (map panel_view c.args.panels.now) (run_view c.args.overview.now)) c.peaks_of.ensures.are c.few_entries.ensures in
    adds_as shown c.write_overview.ensures
