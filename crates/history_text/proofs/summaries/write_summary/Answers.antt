use Rattle.std.proofs.Common.{append_assoc}
use Rattle.file_access.proofs.lemmas.Telling.{adds_as, adds_then}
use Rattle.history_text.proofs.summaries.write_summary.Goals as goal

pub returns : goal.returns
returns g c = adds_as (simp append_assoc) (adds_then (adds_then c.write_tasks_line.ensures c.write_units_line.ensures) c.write_total_line.ensures)
