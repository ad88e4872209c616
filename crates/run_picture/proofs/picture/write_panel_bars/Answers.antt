use Rattle.std.proofs.Common.{List, map, ap₂}
use Rattle.file_access.proofs.lemmas.Telling.{adds_as}
use Rattle.history_text.specs.HistoryView.{entry_read}
use Rattle.history_text.specs.declared.read_histories.HistoryEntry.{HistoryEntry}
use Rattle.run_spans.specs.declared.spans.Span.{Span}
use Rattle.run_picture.specs.Layers.{bars_text}
use Rattle.run_picture.proofs.picture.write_panel_bars.Goals as goal

pub returns : goal.returns
returns g c =
    adds_as (ap₂ (λ (es : List HistoryEntry) (ss : List Span). bars_text c.args.panel.now.layout (map entry_read es) ss) c.deref.ensures.value c.deref-2.ensures.value) c.write_bars.ensures
