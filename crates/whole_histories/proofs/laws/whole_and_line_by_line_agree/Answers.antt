use Rattle.whole_histories.proofs.Agreeing.{same_by_lines, same_of_input}
use Rattle.whole_histories.proofs.laws.whole_and_line_by_line_agree.Goals as goal

pub returns-clause-lines : goal.returns-clause-lines
returns-clause-lines c = same_by_lines

pub returns-clause-input : goal.returns-clause-input
returns-clause-input c = same_of_input
