use Rattle.std.proofs.Common.{append_assoc}
use Rattle.file_access.proofs.lemmas.Telling.{adds_as, adds_then}
use Rattle.run_picture.specs.Header.{title_text}
use Rattle.run_picture.proofs.header.write_title.Goals as goal

pub returns : goal.returns
unfolding title_text
returns g c = adds_as (simp append_assoc) (adds_then (adds_then (adds_then (adds_then (adds_then c.text.ensures c.write_many.ensures) c.text-2.ensures) c.write_many-2.ensures) c.write_number.ensures) c.text-3.ensures)
