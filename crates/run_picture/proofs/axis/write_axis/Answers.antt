use Rattle.file_access.proofs.lemmas.Telling.{adds_as, adds_then}
use Rattle.run_picture.specs.Axis.{axis_text}
use Rattle.run_picture.proofs.axis.write_axis.Goals as goal

pub returns : goal.returns
unfolding axis_text
returns g c = adds_as (cc) (adds_then c.write_grid.ensures c.write_label.ensures)
