use Rattle.std.proofs.Common.{◌≡◌, length, map, sym, ap, ◌∙◌, append_assoc}
use Rattle.std.proofs.lemmas.List.{length-map}
use Rattle.file_access.proofs.lemmas.Telling.{adds_as, adds_then}
use Rattle.history_text.specs.HistoryView.{entry_read, history_view}
use Rattle.picture_layout.specs.Overview.{RunView, run_view, run_of}
use Rattle.picture_layout.specs.Panels.{panel_view}
use Rattle.run_picture.specs.Picture.{whole_by}
use Rattle.picture_layout.specs.Totals.{peaks_of}
use Rattle.run_picture.proofs.picture.write_svg.Goals as goal

pub returns : goal.returns
returns g c =
    let h = c.args.drawing.now.history.now in
    let levels = c.args.drawing.now.levels.now in
    let shown : run_view c.args.drawing.now.overview.now ≡ run_of h.workers (peaks_of levels) levels c.args.drawing.now.spans.now (length (map entry_read h.entries.items)) =
    c.requires.overview ∙ ap (λ n. run_of h.workers (peaks_of levels) levels c.args.drawing.now.spans.now n) (sym (length-map h.entries.items entry_read)) in
    adds_as (simp append_assoc)
    (adds_then (adds_then (adds_then (adds_then (adds_then c.write_top.ensures
    (adds_as (ap (λ (v : RunView). whole_by (history_view h) levels (map panel_view c.args.drawing.now.panels.now) v) shown) c.write_whole.ensures))
    c.write_panels.ensures) c.text.ensures) c.write_all_ticks.ensures) c.text-2.ensures)
