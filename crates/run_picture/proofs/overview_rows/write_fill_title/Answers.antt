use Rattle.std.proofs.Common.{append_assoc}
use Rattle.file_access.proofs.lemmas.Telling.{adds_as, adds_then}
use Rattle.run_picture.proofs.overview_rows.write_fill_title.Goals as goal

pub returns : goal.returns
returns g c = adds_as (simp append_assoc) (adds_then (adds_then (adds_then (adds_then c.write_short.ensures c.text.ensures) c.write_number.ensures) c.write_number-2.ensures) c.text-2.ensures)
