use Rattle.std.proofs.Common.{ℕ, ◌++◌, ap, codes}
use Rattle.file_access.proofs.lemmas.Telling.{adds_as, adds_then}
use Rattle.run_picture.specs.Shapes.{number_words}
use Rattle.run_picture.proofs.overview_rows.write_step.Goals as goal

pub returns : goal.returns
returns g c = adds_as (ap (λ (n : ℕ). number_words (codes "V") n ++ codes "h4") c.saturating_sub.ensures) (adds_then c.write_number.ensures c.text.ensures)
