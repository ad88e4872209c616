use Rattle.std.proofs.Common.{ℕ, ◌-◌, ap, ◌∙◌, codes, append_assoc}
use Rattle.file_access.proofs.lemmas.Telling.{adds_as, adds_then}
use Rattle.run_picture.specs.Shapes.{number_words, text_begin}
use Rattle.run_picture.proofs.picture.write_heading.Goals as goal

pub returns : goal.returns
returns g c =
    adds_as (simp append_assoc) (adds_then (adds_then (adds_then (adds_then (adds_as (ap (λ (y : ℕ). text_begin (codes "w") 8 y) (c.saturating_sub.ensures ∙ ap (λ (t : ℕ). t - 15) c.from.ensures)) c.begin_text.ensures) c.number.ensures) (adds_as (ap (λ (n : ℕ). number_words (codes ": entries ") n) c.from-2.ensures) c.write_number.ensures)) (adds_as (ap (λ (n : ℕ). number_words (codes " to ") n) (c.saturating_sub-2.ensures ∙ ap (λ (b : ℕ). b - 1) c.from-3.ensures)) c.write_number-2.ensures)) c.text.ensures)
