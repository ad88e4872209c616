use Rattle.file_access.proofs.lemmas.Telling.{printed_from_blank}
use Rattle.command_answers.proofs.refusals.print_refusal.Goals as goal

pub returns : goal.returns
returns g c = c.end.ensures _ _ (printed_from_blank _ _ _ _ _ c.new-page.ensures c.write_refusal.ensures)
