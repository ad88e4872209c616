use Rattle.file_access.proofs.lemmas.Telling.{adds_as, adds_then}
use Rattle.run_picture.proofs.axis.write_mark.Goals as goal

pub returns : goal.returns
returns g c = adds_as (cc) (adds_then c.write_grid_line.ensures c.write_mark_number.ensures)
