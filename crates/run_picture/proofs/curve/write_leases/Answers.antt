use Rattle.std.proofs.Common.{ℕ, ap, codes, append_assoc}
use Rattle.file_access.proofs.lemmas.Telling.{adds_as, adds_then}
use Rattle.run_picture.specs.Shapes.{number_words}
use Rattle.run_picture.proofs.curve.write_leases.Goals as goal

pub returns : goal.returns
returns g c =
    adds_as (simp append_assoc) (adds_then (adds_then (adds_then (adds_as (ap (λ (n : ℕ). number_words (codes "<path class=\"c\" d=\"M76 ") n) c.base-base.ensures.at) c.write_number.ensures) c.write_outs.ensures) (adds_as (ap (λ (n : ℕ). number_words (codes "V") n) c.base-base.ensures.at) c.write_number-2.ensures)) c.text.ensures)
