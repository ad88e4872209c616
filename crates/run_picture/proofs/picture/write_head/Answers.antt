use Rattle.std.proofs.Common.{ℕ, ap, append_assoc}
use Rattle.file_access.proofs.lemmas.Telling.{adds_as, adds_then}
use Rattle.run_picture.specs.Header.{opening_text}
use Rattle.run_picture.specs.Picture.{head_text}
use Rattle.run_picture.proofs.picture.write_head.Goals as goal

pub returns : goal.returns
unfolding head_text
returns g c =
    let opening = adds_as (ap (λ (w : ℕ). opening_text w c.args.height) c.width_of.ensures) c.write_opening.ensures in
    adds_as (simp append_assoc) (adds_then (adds_then (adds_then (adds_then (adds_then opening c.write_settings.ensures) c.write_style.ensures) c.write_run_title.ensures) c.write_second.ensures) c.write_legend.ensures)
