use Rattle.std.proofs.Common.{append_assoc}
use Rattle.file_access.proofs.lemmas.Telling.{adds_as, adds_then}
use Rattle.history_text.proofs.results.write_task_line.Goals as goal

pub returns : goal.returns
returns g c = adds_as (simp append_assoc) (adds_then (adds_then (adds_then c.text.ensures c.write_name.ensures) c.write_mark.ensures) c.text-2.ensures)
