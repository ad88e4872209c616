use Rattle.std.proofs.Common.{append_assoc}
use Rattle.file_access.proofs.lemmas.Telling.{adds_as, adds_then}
use Rattle.run_picture.proofs.item_bars.write_item_bar.Goals as goal

pub returns : goal.returns
returns g c = adds_as (simp append_assoc) (adds_then c.begin_hued.ensures c.write_item_title.ensures)
