use Rattle.std.proofs.Common.{◌+◌, arith, ap, ◌≤◌, length}
use Rattle.history_text.specs.Text.{end_text}
use Rattle.history_check.proofs.EndLines.{end_short}
use Rattle.history_check.proofs.Rooms.{room_behind_entry, one_counted}
use Rattle.history_check.proofs.Steps.{on_entry, on_end, on_stop, no_room, fails_underway, handed_on}
use Rattle.history_check.proofs.inputs.check_next.Goals as goal

pub take_line-requires-clause-few : goal.take_line-requires-clause-few
take_line-requires-clause-few g c = end_short c.count.result c.end_length.result c.end_length.ensures (omega (arith, c.count.ensures, c.requires.entries))

pub returns-in_err-take_line-clause-goes_on : goal.returns-in_err-take_line-clause-goes_on
returns-in_err-take_line-clause-goes_on g c = λ p start u.
    handed_on p start (g.I.Source.seen c.take_line.new.input) c.args.check.now _ c.from_residual.result _ c.from_residual.ensures.1
    (fails_underway start (g.I.Source.seen c.args.input.now) (g.I.Source.seen c.take_line.new.input) c.args.lines.now _ u c.in_err-take_line.ensures)

pub returns-in-Ok-Entry-clause-shortens : goal.returns-in-Ok-Entry-clause-shortens
returns-in-Ok-Entry-clause-shortens g c =
    let counted = one_counted c.args.check.now c.take_line-2.new.self c.line.result.now c.in-Ok-Entry.field-0 c.in-Ok-Entry.field-0-is c.in-Ok-Entry.ensures.counted in
    let some : c.end_length.result + 12 ≤ length c.take_line.new.self.line = omega (arith, counted.1, c.end_length.ensures, ap (λ n. length (end_text n)) c.count.ensures, ap length c.line.ensures) in
    room_behind_entry c.args.lines.now c.take_line.new.self c.end_length.result c.count.result c.args.check.now.count c.take_line-2.new.self.count
    c.in_ok-take_line.ensures.0 c.in_ok-take_line.ensures.2 c.end_length.ensures c.count.ensures c.requires counted.0 some

pub returns-in-Ok-Entry-clause-goes_on : goal.returns-in-Ok-Entry-clause-goes_on
returns-in-Ok-Entry-clause-goes_on g c = λ p start u.
    on_entry c.end_length.result c.line.result.now c.in_ok-take_line.field-0 c.in-Ok-Entry.field-0 u c.in_ok-take_line.ensures c.line.ensures c.in-Ok-Entry.field-0-is c.in-Ok-Entry.ensures.goes_on

pub returns-in-Ok-End-clause-goes_on : goal.returns-in-Ok-End-clause-goes_on
returns-in-Ok-End-clause-goes_on g c = λ p start u.
    on_end c.end_length.result c.count.result c.line.result.now c.in_ok-take_line.field-0 c.in-Ok-End.field-0 c.answer.result u c.in_ok-take_line.ensures c.end_length.ensures c.count.ensures c.line.ensures
    c.in-Ok-End.field-0-is c.in-Ok-End.ensures.goes_on c.answer.ensures

pub returns-in-Err-Stops-clause-goes_on : goal.returns-in-Err-Stops-clause-goes_on
returns-in-Err-Stops-clause-goes_on g c = λ p start u.
    on_stop c.end_length.result _ c.line.result.now c.in_ok-take_line.field-0 c.in-Err-Stops.field-0 u c.in_ok-take_line.ensures c.line.ensures c.in-Err-Stops.field-0-is c.in-Err-Stops.ensures.goes_on

pub returns-in-Err-NoMemory-clause-goes_on : goal.returns-in-Err-NoMemory-clause-goes_on
returns-in-Err-NoMemory-clause-goes_on g c = λ p start u. no_room u c.in_ok-take_line.ensures.0
