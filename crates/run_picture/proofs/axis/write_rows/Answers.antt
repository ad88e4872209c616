use Rattle.file_access.proofs.lemmas.Telling.{adds_as, adds_then}
use Rattle.run_picture.specs.Axis.{worker_rows_text}
use Rattle.run_picture.proofs.axis.write_rows.Goals as goal

pub returns : goal.returns
unfolding worker_rows_text
returns g c = adds_as (cc) (adds_then c.write_each_row.ensures c.write_across.ensures)
