use Rattle.history_text.specs.HistoryView.{history_view}
use Rattle.leases_picture.proofs.Finding.{no_second, found_all, broken_all}
use Rattle.leases_picture.proofs.inputs.find_history.Goals as goal

pub returns-in_default-opening : goal.returns-in_default-opening
returns-in_default-opening c = no_second c.in-Some.version c.in-Some.ensures.some c.next_line.ensures c.in_default-opening.ensures.none

pub returns-in-Ok : goal.returns-in-Ok
returns-in-Ok c = found_all c.in-Some.version (history_view c.take_lines.new.history) c.in-Some.ensures.some c.next_line.ensures c.in-Some-opening.ensures.some c.in-Ok.ensures

pub returns-in-Err : goal.returns-in-Err
returns-in-Err c = broken_all c.in-Some.version (history_view c.take_lines.new.history) c.in-Err.fail c.in-Some.ensures.some c.next_line.ensures c.in-Some-opening.ensures.some c.in-Err.ensures
