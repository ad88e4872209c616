use Rattle.file_access.proofs.lemmas.Telling.{adds_then}
use Rattle.history_text.proofs.events.write_between.Goals as goal

pub returns : goal.returns
returns g c = adds_then (adds_then c.text.ensures c.number.ensures) c.text-2.ensures
