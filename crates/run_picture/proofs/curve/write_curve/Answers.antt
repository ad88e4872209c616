use Rattle.std.proofs.Common.{ℕ, ap, append_assoc}
use Rattle.file_access.proofs.lemmas.Telling.{adds_as, adds_then}
use Rattle.run_picture.specs.Curve.{queue_text}
use Rattle.run_picture.proofs.curve.write_curve.Goals as goal

pub returns : goal.returns
returns g c =
    let queued = ap (λ (m : ℕ). queue_text c.args.layout.now c.args.peaks.queued m c.args.levels.now) c.scale.ensures.is in
    adds_as (simp append_assoc) (adds_then (adds_then c.write_leases.ensures (adds_as queued c.write_queued.ensures)) c.write_scale.ensures)
