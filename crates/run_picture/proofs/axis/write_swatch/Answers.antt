use Rattle.std.proofs.Common.{ap}
use Rattle.file_access.proofs.lemmas.Telling.{adds_as, adds_then}
use Rattle.run_picture.specs.Shapes.{hued, rect_text}
use Rattle.run_picture.specs.WorkerMarks.{marks_text}
use Rattle.run_picture.specs.declared.shapes.Area.{Area}
use Rattle.std.proofs.Common.{codes}
use Rattle.run_picture.proofs.axis.write_swatch.Goals as goal

pub returns : goal.returns
returns g c =
    let here = c.swatch_area-swatch.ensures.is in
    adds_then (adds_as (ap (λ (a : Area). rect_text (hued (codes "m") c.args.worker) a) here) c.write_hued.ensures)
    (adds_as (ap (λ (a : Area). marks_text c.args.worker a) here) c.write_marks.ensures)
