use Rattle.std.proofs.Common.{ℕ, ap, ◌∙◌, codes}
use Rattle.file_access.proofs.lemmas.Telling.{adds_as}
use Rattle.run_picture.specs.LockRows.{lane_bar, lock_bar, parked_lock}
use Rattle.run_picture.specs.declared.shapes.Area.{Area}
use Rattle.run_picture.proofs.lock_rows.write_parked_lock.Goals as goal

pub returns : goal.returns
unfolding parked_lock
returns g c =
    let span = c.args.span.now in
    let here = c.lane_bar-area.ensures.is ∙ ap (λ (y : ℕ). lane_bar c.args.panel.now.layout span y 2) c.lane_y.ensures in
    adds_as (ap (λ (a : Area). lock_bar c.args.lock (codes " is parked by w") span a) here) c.write_titled.ensures
