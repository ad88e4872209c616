use Rattle.std.proofs.Common.{ap}
use Rattle.file_access.proofs.lemmas.Telling.{adds_as, adds_then}
use Rattle.history_text.specs.HistoryView.{entry_read}
use Rattle.run_picture.specs.Ticks.{tick_bar}
use Rattle.run_picture.specs.declared.shapes.Area.{Area}
use Rattle.run_picture.proofs.ticks.write_marks.Goals as goal

pub returns : goal.returns
returns g c =
    adds_then (adds_as (ap (λ (a : Area). tick_bar a c.args.number (entry_read c.args.entry.now)) c.tick_area.ensures) c.write_tick.ensures) (c.write_more.ensures)
