use Rattle.std.proofs.Common.{sym, ◌∙◌}
use Rattle.history_text.specs.HistoryView.{history_view}
use Rattle.history_text.proofs.Words.{nil_from, not_nil}
use Rattle.history_text.proofs.lemmas.ReadLaws.{added_one, ended_there, read_ended, read_on}
use Rattle.whole_histories.proofs.Reading.{failed_there, read_past}
use Rattle.whole_histories.proofs.read.read_lines.Goals as goal

pub returns-in_err-take_line : goal.returns-in_err-take_line
returns-in_err-take_line c = failed_there (history_view c.take_line.new.self) c.take_line.result c.in_err-take_line.field-0.0 c.from_residual.result c.loop-history.invariant c.next_line.ensures c.in_err-take_line.was c.take_line.ensures c.from_residual.ensures.1

pub loop-history-preserved : goal.loop-history-preserved
loop-history-preserved c = read_on c.loop-history.invariant c.next_line.ensures (added_one c.take_line.result c.in_ok-take_line.field-0 c.in_ok-take_line.was c.in-Entry.is c.take_line.ensures)

pub returns-in-End : goal.returns-in-End
returns-in-End c = read_ended c.loop-history.invariant c.next_line.ensures (ended_there c.take_line.result c.in_ok-take_line.field-0 c.in_ok-take_line.was c.in-End.is c.take_line.ensures) (nil_from c.next_line.result.1.now (sym c.is_empty.ensures ∙ c.if-is_empty.true))

pub returns-in-End-2 : goal.returns-in-End-2
returns-in-End-2 c = read_past c.next_number.result c.loop-history.invariant c.next_line.ensures (ended_there c.take_line.result c.in_ok-take_line.field-0 c.in_ok-take_line.was c.in-End-2.is c.take_line.ensures) (not_nil c.next_line.result.1.now (sym c.is_empty.ensures ∙ c.if-is_empty.false)) c.next_number.ensures
