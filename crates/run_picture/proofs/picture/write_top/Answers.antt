use Rattle.std.proofs.Common.{ℕ, ap₂}
use Rattle.file_access.proofs.lemmas.Telling.{adds_as}
use Rattle.history_text.specs.HistoryView.{history_view}
use Rattle.run_picture.specs.Picture.{head_text}
use Rattle.run_picture.specs.declared.header.Totals.{Totals}
use Rattle.run_picture.proofs.picture.write_top.Goals as goal

pub returns : goal.returns
returns g c = adds_as (ap₂ (λ (h : ℕ) (t : Totals). head_text (history_view c.args.drawing.now.history.now) c.args.drawing.now.format.plot h t) c.height_of.ensures c.totals_of.ensures) c.write_head.ensures
