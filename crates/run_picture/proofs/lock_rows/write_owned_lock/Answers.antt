use Rattle.std.proofs.Common.{ap}
use Rattle.file_access.proofs.lemmas.Telling.{adds_as, adds_then}
use Rattle.run_picture.specs.LockRows.{owned_bar, owner_label, owned_lock}
use Rattle.run_picture.specs.declared.shapes.Area.{Area}
use Rattle.run_picture.proofs.lock_rows.write_owned_lock.Goals as goal

pub returns : goal.returns
unfolding owned_lock
returns g c =
    let here = c.owned_area-area.ensures.is in
    let span = c.args.span.now in
    adds_then (adds_as (ap (λ (a : Area). owned_bar c.args.lock span a) here) c.write_owned_bar.ensures)
    (adds_as (ap (λ (a : Area). owner_label c.args.panel.now.layout a span.worker.0) here) c.write_owner.ensures)
