use Rattle.std.proofs.Common.{ℕ, ◌+◌, ap, ap₂, codes, append_assoc}
use Rattle.file_access.proofs.lemmas.Telling.{adds_as, adds_then}
use Rattle.run_picture.specs.Curve.{scale_top}
use Rattle.run_picture.specs.Shapes.{across, label, label_number}
use Rattle.run_picture.proofs.curve.write_scale.Goals as goal

pub returns : goal.returns
returns g c =
    let top = c.from-top.ensures in
    let foot = adds_as (ap₂ (λ (t r : ℕ). across (codes "o") 76 t r) c.base.ensures.at c.right.ensures.at) c.write_across.ensures in
    let out = adds_as (ap (λ (t : ℕ). scale_top (t + 4) c.args.peaks.out c.args.max) top) c.write_scale_top.ensures in
    let name = adds_as (ap (λ (t : ℕ). label (codes "x") 70 (t + 22) (codes "leases out")) top) c.write_label.ensures in
    let queued = adds_as (ap₂ (λ (t q : ℕ). label_number (codes "y") 70 (t + 36) (codes "queued /") q) top c.scale.ensures.is) c.write_label_number.ensures in
    let zero = adds_as (ap (λ (t : ℕ). label (codes "e") 70 (t + 49) (codes "0")) top) c.write_label-2.ensures in
    adds_as (simp append_assoc) (adds_then (adds_then (adds_then (adds_then (adds_then c.write_max_line.ensures foot) out) name) queued) zero)
