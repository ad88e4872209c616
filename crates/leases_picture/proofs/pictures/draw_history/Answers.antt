use Rattle.std.proofs.Common.{inl, inr}
use Rattle.history_text.specs.HistoryView.{history_view}
use Rattle.leases_picture.proofs.Straying.{told_stray}
use Rattle.leases_picture.proofs.pictures.draw_history.Goals as goal

pub returns-in-Err-NoWorker : goal.returns-in-Err-NoWorker
returns-in-Err-NoWorker g c =
    inr (inr (inr (inl (told_stray (history_view c.args.history.now) (g.K.Sink.seen c.args.sink.now) (g.K.Sink.seen c.draw.new.sink) (g.K.Sink.seen c.told-in-Err-NoWorker.new.sink)
    c.told-in-Err-NoWorker.result c.in-Err-NoWorker.field-0 c.in-Err-NoWorker.number c.in-Err-NoWorker.field-0-is c.in-Err-NoWorker.ensures c.told-in-Err-NoWorker.ensures))))
