use Rattle.std.proofs.Common.{ap, map, ◌∙◌}
use Rattle.file_access.proofs.lemmas.Telling.{adds_as}
use Rattle.history_text.specs.Text.{numbered}
use Rattle.history_text.specs.HistoryView.{entry_read}
use Rattle.run_picture.specs.Picture.{within}
use Rattle.run_picture.specs.Ticks.{marks_of}
use Rattle.run_picture.proofs.Next.{within_viewed}
use Rattle.run_picture.proofs.picture.write_panel_ticks.Goals as goal

pub returns : goal.returns
returns g c =
    let f = c.args.panel.now.layout in
    adds_as (ap (numbered (marks_of f) f.first) (ap (map entry_read) (c.within.ensures ∙ ap (within f) c.deref.ensures.value) ∙ within_viewed entry_read f c.args.history.now.entries.items)) c.write_ticks.ensures
