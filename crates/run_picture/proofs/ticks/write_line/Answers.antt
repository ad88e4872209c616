use Rattle.std.proofs.Common.{append_assoc}
use Rattle.file_access.proofs.lemmas.Telling.{adds_as, adds_then}
use Rattle.run_picture.specs.Ticks.{line_of}
use Rattle.run_picture.proofs.ticks.write_line.Goals as goal

pub returns : goal.returns
unfolding line_of
returns g c = adds_as (simp append_assoc) (adds_then (adds_then (adds_then (adds_then c.number.ensures c.write_short.ensures) c.write_kind.ensures) c.text.ensures) c.write_done.ensures)
