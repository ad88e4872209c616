use Rattle.history_check.proofs.OneAnswer.{one_answer}
use Rattle.history_check.proofs.laws.an_input_has_one_answer.Goals as goal

pub returns : goal.returns
returns c = one_answer
