use Rattle.file_access.proofs.lemmas.Telling.{adds_then}
use Rattle.history_text.proofs.histories.write_history.Goals as goal

pub returns : goal.returns
returns g c = adds_then (adds_then c.write_head.ensures c.write_entries.ensures) c.write_end.ensures
