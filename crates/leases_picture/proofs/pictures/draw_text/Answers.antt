use Rattle.std.proofs.Common.{ℕ, List, inl, subst}
use Rattle.history_text.specs.HistoryView.{history_view}
use Rattle.leases_picture.specs.Found.{HasHistory}
use Rattle.leases_picture.proofs.pictures.draw_text.Goals as goal

pub draw_history-requires : goal.draw_history-requires
draw_history-requires g c = c.in-Ok.ensures.names.history.fits.head

pub returns-in-Ok : goal.returns-in-Ok
returns-in-Ok g c =
    inl (record {
      history = history_view c.in-Ok.history;
      stands = subst (λ (bytes : List ℕ). HasHistory bytes (history_view c.in-Ok.history)) c.deref.ensures.value c.in-Ok.ensures;
      drawn = c.draw_history.ensures;
    })
