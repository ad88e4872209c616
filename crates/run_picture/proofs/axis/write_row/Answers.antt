use Rattle.file_access.proofs.lemmas.Telling.{adds_as, adds_then}
use Rattle.run_picture.proofs.axis.write_row.Goals as goal

pub returns : goal.returns
returns g c = adds_as (cc) (adds_then c.write_across.ensures (adds_then c.write_swatch.ensures c.write_name.ensures))
