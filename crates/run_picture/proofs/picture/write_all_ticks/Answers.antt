use Rattle.history_text.specs.HistoryView.{history_view}
use Rattle.picture_layout.specs.Panels.{panel_view}
use Rattle.run_picture.specs.Picture.{ticks_of}
use Rattle.run_picture.proofs.Next.{adds_mapped}
use Rattle.run_picture.proofs.picture.write_all_ticks.Goals as goal

pub loop-panel-preserved : goal.loop-panel-preserved
loop-panel-preserved g c =
    adds_mapped panel_view (ticks_of (history_view c.args.history.now)) c.args.panels.now c.loop-panel.panel-index c.panel-item.result c.loop-panel-test.true c.panel-item.is c.loop-panel.invariant c.write_panel_ticks.ensures
