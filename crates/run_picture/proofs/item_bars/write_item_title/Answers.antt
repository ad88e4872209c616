use Rattle.std.proofs.Common.{append_assoc}
use Rattle.file_access.proofs.lemmas.Telling.{adds_as, adds_then}
use Rattle.run_picture.proofs.item_bars.write_item_title.Goals as goal

pub returns : goal.returns
returns g c = adds_as (simp append_assoc) (adds_then (adds_then (adds_then c.text.ensures c.write_at_worker.ensures) c.write_note.ensures) c.text-2.ensures)
