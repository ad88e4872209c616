use Rattle.std.proofs.Common.{append_assoc}
use Rattle.file_access.proofs.lemmas.Telling.{adds_as, adds_then}
use Rattle.history_text.proofs.entries.write_entry.Goals as goal

pub returns : goal.returns
returns g c = adds_as (simp append_assoc) (adds_then (adds_then (adds_then (adds_then (adds_then c.number.ensures c.write_numbered.ensures) c.write_kind.ensures) c.text.ensures) c.write_effect.ensures) c.text-2.ensures)
