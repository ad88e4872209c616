use Rattle.file_access.proofs.lemmas.Telling.{adds_then, printed_from_blank}
use Rattle.command_answers.proofs.check.print_lawful.Goals as goal

pub returns : goal.returns
returns g c = c.end.ensures _ _ (printed_from_blank _ _ _ _ _ c.new-page.ensures (adds_then c.text.ensures (adds_then c.number.ensures c.text-2.ensures)))
