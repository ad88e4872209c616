use Rattle.std.proofs.Common.{◌∙◌, append_assoc}
use Rattle.file_access.proofs.lemmas.Telling.{adds_as, adds_then}
use Rattle.generated_plan.proofs.actions.write_wait.Goals as goal

pub returns : goal.returns
returns g c = adds_as (simp append_assoc) (adds_then (adds_then c.text.ensures (adds_as (c.as_bytes.ensures.value ∙ c.word.ensures) c.text-2.ensures)) c.text-3.ensures)
