use Rattle.std.proofs.Common.{ℕ, ap, ap₂, codes, ◌∙◌}
use Rattle.file_access.proofs.lemmas.Telling.{adds_as}
use Rattle.picture_layout.specs.Layout.{right_of}
use Rattle.run_picture.specs.Shapes.{down}
use Rattle.run_picture.specs.Picture.{edge_text}
use Rattle.run_picture.proofs.picture.write_edge.Goals as goal

pub returns : goal.returns
unfolding edge_text
returns g c =
    let f = c.args.layout.now in
    adds_as (ap₂ (λ (x t : ℕ). down (codes "o") x t c.bottom.result) c.right.ensures.at c.from.ensures ∙ ap (λ (b : ℕ). down (codes "o") (right_of f) f.top b) c.bottom.ensures.at) c.write_down.ensures
