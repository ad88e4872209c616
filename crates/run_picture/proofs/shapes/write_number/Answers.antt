use Rattle.file_access.proofs.lemmas.Telling.{adds_then}
use Rattle.run_picture.proofs.shapes.write_number.Goals as goal

pub returns : goal.returns
returns g c = adds_then c.text.ensures c.number.ensures
