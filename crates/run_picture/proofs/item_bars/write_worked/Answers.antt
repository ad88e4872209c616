use Rattle.std.proofs.Common.{◌≡◌, ap, ap₂, ◌∙◌}
use Rattle.file_access.proofs.lemmas.Telling.{adds_as, adds_then}
use Rattle.std.specs.Prelude.{Bool, [], if◌then◌else◌}
use Rattle.run_picture.specs.WorkerBars.{bar, cap_text}
use Rattle.run_picture.specs.ItemBars.{item_area, number_area, label_area, item_bar, item_label}
use Rattle.run_picture.specs.declared.shapes.Area.{Area}
use Rattle.picture_layout.specs.declared.layout.Rows.{Rows}
use Rattle.run_picture.specs.ItemBars.{worked_text}
use Rattle.run_picture.proofs.item_bars.write_worked.Goals as goal

pub returns : goal.returns
unfolding worked_text
returns g c =
    let here : c.bar-area.result ≡ item_area c.args.layout.now c.args.span.now = c.bar-area.ensures.is ∙ ap (λ (r : Rows). bar c.args.layout.now c.args.span.now r.item_y r.item_height) c.rows-rows.ensures in
    let place : c.label_area.result ≡ number_area c.args.layout.now c.args.span.now = c.label_area.ensures ∙ ap₂ (λ (a : Area) (b : Bool). label_area a b) here c.fails_within-fails.ensures in
    adds_then (adds_as (ap (λ (a : Area). item_bar c.args.span.now c.args.unit c.args.ended a) here) c.write_item_bar.ensures)
    (adds_then (adds_as (ap₂ (λ (b : Bool) (a : Area). if b then cap_text a else []) c.fails_within-fails.ensures here) c.write_cap_where.ensures)
    (adds_as (ap₂ (λ (r : Rows) (a : Area). item_label r a c.args.unit) c.rows-rows.ensures place) c.write_item_label.ensures))
