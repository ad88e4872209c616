use Rattle.std.proofs.Common.{append_assoc}
use Rattle.file_access.proofs.lemmas.Telling.{adds_as, adds_then}
use Rattle.run_picture.proofs.worker_bars.write_hued_number.Goals as goal

pub returns : goal.returns
returns g c = adds_as (simp append_assoc) (adds_then (adds_then (adds_then (adds_then (adds_then (adds_then c.text.ensures c.write_hue.ensures) c.write_number.ensures) c.write_number-2.ensures) c.text-2.ensures) c.write_short.ensures) c.text-3.ensures)
