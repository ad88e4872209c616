use Rattle.std.proofs.Common.{append_assoc}
use Rattle.file_access.proofs.lemmas.Telling.{adds_as, adds_then}
use Rattle.run_picture.specs.Header.{second_text}
use Rattle.run_picture.proofs.header.write_second.Goals as goal

pub returns : goal.returns
unfolding second_text
returns g c = adds_as (simp append_assoc) (adds_then (adds_then (adds_then (adds_then (adds_then (adds_then (adds_then c.write_number.ensures c.write_number-2.ensures) c.write_number-3.ensures) c.write_number-4.ensures) c.write_number-5.ensures) c.text.ensures) c.write_hundredths.ensures) c.text-2.ensures)
