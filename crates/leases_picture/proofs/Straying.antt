-- An entry of a worker beyond the head, as it is told.
use Rattle.std.proofs.Common.{◌≡◌, ℕ, Err, subst}
use Rattle.file_access.specs.SinkView.{SinkView}
use Rattle.history_text.specs.HistoryView.{HistoryView}
use Rattle.run_picture.specs.Picture.{IsDrawn}
use Rattle.run_picture.specs.declared.picture.DrawFail.{DrawFail}
use Rattle.run_picture.specs.declared.picture.DrawFail.TheVariants.{NoWorker}
use Rattle.leases_picture.specs.Ends.{IsToldAs}
use Rattle.leases_picture.specs.Pictured.{TellsStray}
use Rattle.leases_picture.specs.declared.status.Status.{Status}
use Rattle.leases_picture.specs.declared.status.Status.TheVariants.{NoHistory}

pub told_stray : (h : HistoryView) (old seen new : SinkView) (status : Status) (fail : DrawFail) (n : ℕ) → fail ≡ NoWorker n → IsDrawn h old seen (Err fail) → IsToldAs (NoHistory n) seen new status
    → TellsStray h old new status
told_stray h old seen new status fail n is drawn told =
    let strays : IsDrawn h old seen (Err (NoWorker n)) = subst (λ f. IsDrawn h old seen (Err f)) is drawn in
    record {
      number = n;
      stray = strays.0;
      told = subst (λ (s : SinkView). IsToldAs (NoHistory n) s new status) strays.1 told;
    }
