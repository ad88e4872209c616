use Rattle.std.proofs.Common.{append_assoc}
use Rattle.file_access.proofs.lemmas.Telling.{adds_as, adds_then}
use Rattle.run_picture.proofs.worker_bars.write_task_bar.Goals as goal

pub returns : goal.returns
returns g c = adds_as (simp append_assoc) (adds_then (adds_then (adds_then c.begin_hued.ensures c.write_task_title.ensures) c.write_hued.ensures) c.write_hued-2.ensures)
