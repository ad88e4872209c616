use Rattle.plan_table.specs.Document.{document_reading}
use Rattle.plan_reader.proofs.OneAnswer.{one_answer}
use Rattle.plan_reader.proofs.laws.a_text_has_one_answer.Goals as goal

pub returns : goal.returns
returns c = λ bytes. one_answer c.first_cycle_is_unique.ensures (document_reading bytes)
