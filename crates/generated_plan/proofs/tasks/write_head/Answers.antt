use Rattle.std.proofs.Common.{ap, append_assoc, decimal}
use Rattle.file_access.proofs.lemmas.Telling.{adds_as, adds_then}
use Rattle.generated_plan.proofs.tasks.write_head.Goals as goal

pub returns : goal.returns
returns g c = adds_as (simp append_assoc) (adds_then (adds_then (adds_then (adds_then c.text.ensures (adds_as (ap decimal c.from.ensures) c.number.ensures)) c.text-2.ensures) c.number-2.ensures) c.text-3.ensures)
