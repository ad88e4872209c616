use Rattle.std.proofs.Common.{◌++◌, ap}
use Rattle.file_access.proofs.lemmas.Telling.{adds_as, adds_then}
use Rattle.run_picture.specs.Overview.{band_class, band_title, band_number, band_text}
use Rattle.run_picture.specs.Shapes.{titled}
use Rattle.run_picture.specs.declared.shapes.Area.{Area}
use Rattle.run_picture.proofs.overview_axis.write_band.Goals as goal

pub returns : goal.returns
unfolding band_text
returns g c =
    let n = c.args.number in
    let title = band_title n c.args.panel.now.layout in
    adds_as (ap (λ (a : Area). titled (band_class n) a title ++ band_number n a) c.band_area-area.ensures.is)
    (adds_then (adds_then (adds_then (adds_then c.begin_band.ensures c.text.ensures) c.write_band_title.ensures) c.text-2.ensures) c.write_band_number.ensures)
