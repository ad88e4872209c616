use Rattle.std.proofs.Common.{append_assoc}
use Rattle.file_access.proofs.lemmas.Telling.{adds_as, adds_then}
use Rattle.run_picture.proofs.titles.write_at_worker.Goals as goal

pub returns : goal.returns
returns g c = adds_as (simp append_assoc) (adds_then (adds_then c.write_short.ensures c.write_short-2.ensures) c.write_over.ensures)
