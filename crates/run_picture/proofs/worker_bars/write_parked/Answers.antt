use Rattle.file_access.proofs.lemmas.Telling.{adds_then}
use Rattle.run_picture.proofs.worker_bars.write_parked.Goals as goal

pub returns : goal.returns
returns g c =
    adds_then (adds_then (adds_then c.begin_hued.ensures c.text.ensures) (adds_then (adds_then c.write_short.ensures c.write_short-2.ensures) c.write_over.ensures)) c.text-2.ensures
