use Rattle.std.proofs.Common.{ap, decimal}
use Rattle.file_access.proofs.lemmas.Telling.{adds_as, adds_then}
use Rattle.run_picture.proofs.shapes.write_short.Goals as goal

pub returns : goal.returns
returns g c = adds_then c.text.ensures (adds_as (ap decimal c.from.ensures) c.number.ensures)
