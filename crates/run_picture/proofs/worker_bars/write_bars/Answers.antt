use Rattle.std.proofs.Common.{append_assoc}
use Rattle.file_access.proofs.lemmas.Telling.{adds_as, adds_then}
use Rattle.run_picture.specs.Layers.{bars_text}
use Rattle.run_picture.proofs.worker_bars.write_bars.Goals as goal

pub returns : goal.returns
unfolding bars_text
returns g c = adds_as (simp append_assoc) (adds_then (adds_then (adds_then (adds_then c.write_layer.ensures c.write_layer-2.ensures) c.write_layer-3.ensures) c.write_layer-4.ensures) c.write_layer-5.ensures)
