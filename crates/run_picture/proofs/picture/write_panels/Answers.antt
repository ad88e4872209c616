use Rattle.std.proofs.Common.{ℕ, ◌+◌, length, map, ap, sym, arith}
use Rattle.std.proofs.lemmas.List.{length-map}
use Rattle.file_access.proofs.lemmas.Telling.{adds_as, adds_then}
use Rattle.history_text.specs.HistoryView.{history_view}
use Rattle.picture_layout.specs.Panels.{panel_view}
use Rattle.run_picture.specs.Picture.{heading_where, panel_with_heading}
use Rattle.run_picture.proofs.Next.{adds_viewed}
use Rattle.run_picture.proofs.picture.write_panels.Goals as goal

pub loop-place-preserved : goal.loop-place-preserved
loop-place-preserved g c =
    let panels = c.args.panels.now in
    let panel = c.index-panels-place.result in
    let place = c.loop-place.place in
    adds_viewed panel_view (panel_with_heading (history_view c.args.history.now) c.args.levels.now (length (map panel_view panels))) 1 panels place (place + 1) panel (omega arith)
    c.loop-place-test.true c.index-panels-place.is c.loop-place.invariant
    (adds_then (adds_as (ap (λ (n : ℕ). heading_where n (place + 1) panel.layout) (sym (length-map panels panel_view))) c.write_heading_where.ensures) c.write_panel.ensures)
