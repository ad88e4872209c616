use Rattle.file_access.proofs.lemmas.Telling.{adds_as, adds_then}
use Rattle.run_picture.proofs.header.write_size.Goals as goal

pub returns : goal.returns
returns g c = adds_as (cc) (adds_then c.write_number.ensures c.write_number-2.ensures)
