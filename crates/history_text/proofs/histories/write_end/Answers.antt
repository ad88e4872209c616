use Rattle.std.proofs.Common.{ap, decimal}
use Rattle.file_access.proofs.lemmas.Telling.{adds_as, adds_then}
use Rattle.history_text.proofs.histories.write_end.Goals as goal

pub returns : goal.returns
returns g c = adds_then (adds_then c.text.ensures (adds_as (ap decimal c.len.ensures.value) c.number.ensures)) c.text-2.ensures
