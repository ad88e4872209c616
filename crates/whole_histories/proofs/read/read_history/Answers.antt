use Rattle.whole_histories.proofs.Reading.{no_first, no_second, opened, read_opened}
use Rattle.whole_histories.proofs.read.read_history.Goals as goal

pub returns-in_default : goal.returns-in_default
returns-in_default c = no_first c.next_line.ensures c.in_default.ensures.none

pub returns-in-None : goal.returns-in-None
returns-in-None c = no_second c.in-Some.version c.next_line.ensures c.in-Some.ensures.some c.next_line-2.ensures c.in-None.ensures.none

pub returns-in-Some-opening : goal.returns-in-Some-opening
returns-in-Some-opening c = read_opened c.read_lines.result (opened c.in-Some.version c.next_line.ensures c.in-Some.ensures.some c.next_line-2.ensures c.in-Some-opening.ensures.some) c.read_lines.ensures
