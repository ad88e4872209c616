use Rattle.file_access.proofs.lemmas.Telling.{adds_as}
use Rattle.run_picture.specs.Ticks.{cross_text}
use Rattle.run_picture.proofs.ticks.write_cross.Goals as goal

pub returns : goal.returns
unfolding cross_text
returns g c = adds_as (cc) (c.write_cross_at.ensures)
