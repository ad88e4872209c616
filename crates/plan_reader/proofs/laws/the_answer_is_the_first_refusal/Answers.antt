use Rattle.plan_reader.proofs.FirstOfText.{first_of_text}
use Rattle.plan_reader.proofs.laws.the_answer_is_the_first_refusal.Goals as goal

pub returns : goal.returns
returns c = first_of_text
