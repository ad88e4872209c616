use Rattle.std.proofs.Common.{append_assoc}
use Rattle.file_access.proofs.lemmas.Telling.{adds_as, adds_then}
use Rattle.run_picture.specs.Header.{opening_text}
use Rattle.run_picture.proofs.header.write_opening.Goals as goal

pub returns : goal.returns
unfolding opening_text
returns g c = adds_as (simp append_assoc) (adds_then (adds_then (adds_then (adds_then c.write_size.ensures c.write_size-2.ensures) c.text.ensures) c.write_size-3.ensures) c.text-2.ensures)
