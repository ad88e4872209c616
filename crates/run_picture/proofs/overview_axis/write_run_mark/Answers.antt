use Rattle.std.proofs.Common.{ℕ, ◌++◌, ap, codes}
use Rattle.file_access.proofs.lemmas.Telling.{adds_as, adds_then}
use Rattle.run_picture.specs.Overview.{run_number}
use Rattle.run_picture.specs.Shapes.{down}
use Rattle.run_picture.proofs.overview_axis.write_run_mark.Goals as goal

pub returns : goal.returns
returns g c =
    adds_as (ap (λ (x : ℕ). down (codes "f") x 164 c.args.bottom ++ run_number c.args.entry x c.args.right) c.run_x-x.ensures.at)
    (adds_then c.write_down.ensures c.write_run_number.ensures)
