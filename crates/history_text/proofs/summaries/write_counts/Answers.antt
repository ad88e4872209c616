use Rattle.std.proofs.Common.{append_assoc}
use Rattle.file_access.proofs.lemmas.Telling.{adds_as, adds_then}
use Rattle.history_text.proofs.summaries.write_counts.Goals as goal

pub returns : goal.returns
returns g c = adds_as (simp append_assoc) (adds_then (adds_then (adds_then (adds_then (adds_then c.number.ensures c.text.ensures) c.number-2.ensures) c.text-2.ensures) c.number-3.ensures) c.text-3.ensures)
