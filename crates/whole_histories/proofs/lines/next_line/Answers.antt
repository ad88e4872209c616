use Rattle.whole_histories.proofs.Splitting.{split_there, split_nowhere}
use Rattle.whole_histories.proofs.lines.next_line.Goals as goal

pub returns-in-Some : goal.returns-in-Some
returns-in-Some c = split_there c.args.text.now c.split_at.result.0.now c.split_at.result.1.now c.in-Some.end c.in-Some.ensures c.split_at.ensures.front c.split_at.ensures.back

pub returns-in-None : goal.returns-in-None
returns-in-None c = split_nowhere c.args.text.now c.in-None.ensures
