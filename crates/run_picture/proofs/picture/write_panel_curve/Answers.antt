use Rattle.std.proofs.Common.{List, ap₂}
use Rattle.file_access.proofs.lemmas.Telling.{adds_as}
use Rattle.run_spans.specs.declared.levels.Level.{Level}
use Rattle.run_picture.specs.Curve.{curve_text}
use Rattle.run_picture.specs.Picture.{panel_curve}
use Rattle.picture_layout.specs.declared.totals.Peaks.{Peaks}
use Rattle.run_picture.proofs.picture.write_panel_curve.Goals as goal

pub returns : goal.returns
unfolding panel_curve
returns g c =
    adds_as (ap₂ (λ (p : Peaks) (ls : List Level). curve_text c.args.layout.now c.args.history.now.max p ls) c.requires.peaks c.within.ensures) c.write_curve.ensures
