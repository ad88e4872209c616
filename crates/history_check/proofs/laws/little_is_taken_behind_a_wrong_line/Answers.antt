use Rattle.history_check.proofs.Decided.{little_behind}
use Rattle.history_check.proofs.laws.little_is_taken_behind_a_wrong_line.Goals as goal

pub returns : goal.returns
returns c = little_behind
