use Rattle.history_text.specs.HistoryView.{history_view}
use Rattle.history_text.proofs.lemmas.ReadLaws.{added_one, ended_there, read_on}
use Rattle.leases_picture.proofs.Finding.{ends_there, failed_here}
use Rattle.leases_picture.proofs.inputs.take_lines.Goals as goal

pub returns-in_err-take_line : goal.returns-in_err-take_line
returns-in_err-take_line c = failed_here (history_view c.take_line.new.self) c.take_line.result c.in_err-take_line.field-0.0 c.from_residual.result c.loop-rest.invariant c.next_line.ensures c.in_err-take_line.was c.take_line.ensures c.from_residual.ensures.1

pub loop-rest-preserved : goal.loop-rest-preserved
loop-rest-preserved c = read_on c.loop-rest.invariant c.next_line.ensures (added_one c.take_line.result c.in_ok-take_line.field-0 c.in_ok-take_line.was c.in-Entry.is c.take_line.ensures)

pub returns-in-End : goal.returns-in-End
returns-in-End c = ends_there c.loop-rest.invariant c.next_line.ensures (ended_there c.take_line.result c.in_ok-take_line.field-0 c.in_ok-take_line.was c.in-End.is c.take_line.ensures)
