use Rattle.std.proofs.Common.{ap, codes, append_assoc}
use Rattle.file_access.proofs.lemmas.Telling.{adds_as, adds_then}
use Rattle.run_picture.specs.Shapes.{rect_begin}
use Rattle.run_picture.specs.declared.shapes.Area.{Area}
use Rattle.run_picture.proofs.item_bars.write_fetch_bar.Goals as goal

pub returns : goal.returns
returns g c =
    adds_as (simp append_assoc) (adds_then (adds_then (adds_then c.begin_hued.ensures c.write_item_title.ensures) (adds_as (ap (λ (a : Area). rect_begin (codes "z") a) c.inner.ensures) c.begin_rect.ensures)) c.write_item_title-2.ensures)
