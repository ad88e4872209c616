use Rattle.std.proofs.Common.{◌≡◌, ℕ, ◌-◌, ap, ap₂, ◌∙◌}
use Rattle.std.specs.Int.{div_ceil}
use Rattle.file_access.proofs.lemmas.Telling.{adds_as}
use Rattle.run_picture.specs.Axis.{distance_of, marks_text}
use Rattle.run_picture.proofs.axis.write_grid.Goals as goal

pub returns : goal.returns
returns g c =
    let f = c.args.layout.now in
    let from : c.div_ceil-from.result ≡ div_ceil f.first (distance_of f.per) = c.div_ceil-from.ensures ∙ ap (div_ceil f.first) c.distance_of-distance.ensures.is in
    let behind : c.div_ceil-behind.result ≡ div_ceil f.behind (distance_of f.per) = c.div_ceil-behind.ensures ∙ ap (div_ceil f.behind) c.distance_of-distance.ensures.is in
    let count : c.saturating_sub.result ≡ div_ceil f.behind (distance_of f.per) - div_ceil f.first (distance_of f.per) = c.saturating_sub.ensures ∙ ap₂ (λ (b a : ℕ). b - a) behind from in
    adds_as (ap₂ (λ (a n : ℕ). marks_text f a n) from count) c.write_marks.ensures
