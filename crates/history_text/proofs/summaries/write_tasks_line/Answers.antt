use Rattle.std.proofs.Common.{ap}
use Rattle.file_access.proofs.lemmas.Telling.{adds_as, adds_then}
use Rattle.history_text.specs.Results.{counts_text}
use Rattle.history_text.proofs.summaries.write_tasks_line.Goals as goal

pub returns : goal.returns
returns g c = adds_then c.text.ensures (adds_as (ap counts_text c.count_tasks.ensures) c.write_counts.ensures)
