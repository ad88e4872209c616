use Rattle.std.proofs.Common.{ℕ, ◌+◌, ap, ap₂, codes, append_assoc}
use Rattle.file_access.proofs.lemmas.Telling.{adds_as, adds_then}
use Rattle.run_picture.specs.Shapes.{across, text_begin}
use Rattle.run_picture.proofs.lock_rows.write_folded_row.Goals as goal

pub returns : goal.returns
returns g c =
    let begun = adds_as (ap (λ (y : ℕ). text_begin (codes "a") 79 (y + 10)) c.folded_y-y.ensures.at) c.begin_text.ensures in
    let line = adds_as (ap₂ (λ (y r : ℕ). across (codes "g") 76 (y + 13) r) c.folded_y-y.ensures.at c.right.ensures.at) c.write_across.ensures in
    adds_as (simp append_assoc) (adds_then (adds_then (adds_then (adds_then begun c.write_many.ensures) c.write_folded_kind.ensures) c.text.ensures) line)
