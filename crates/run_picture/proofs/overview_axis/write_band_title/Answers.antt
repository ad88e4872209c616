use Rattle.std.proofs.Common.{ℕ, ◌++◌, ap, codes}
use Rattle.file_access.proofs.lemmas.Telling.{adds_as, adds_then}
use Rattle.run_picture.specs.Shapes.{number_words}
use Rattle.run_picture.proofs.overview_axis.write_band_title.Goals as goal

pub returns : goal.returns
returns g c =
    adds_as (ap (λ (m : ℕ). number_words (codes "part ") c.args.number ++ number_words (codes ": entries ") c.args.layout.now.first ++ number_words (codes " to ") m) c.saturating_sub.ensures)
    (adds_then (adds_then c.write_number.ensures c.write_short.ensures) c.write_short-2.ensures)
