use Rattle.std.proofs.Common.{arith}
use Rattle.history_check.proofs.EndLines.{end_short}
use Rattle.history_check.proofs.Rooms.{room_behind_head}
use Rattle.history_check.proofs.Steps.{on_head, on_no_head, not_opened, no_room_at_head, fails_at_head, handed_on_at_head}
use Rattle.history_check.proofs.inputs.open_check.Goals as goal

pub take_line-requires-clause-few : goal.take_line-requires-clause-few
take_line-requires-clause-few g c = end_short 0 c.end_length.result c.end_length.ensures (omega arith)

pub returns-in_err-take_line-clause-head : goal.returns-in_err-take_line-clause-head
returns-in_err-take_line-clause-head g c = λ start so_far.
    handed_on_at_head c.args.plan.now start (g.I.Source.seen c.take_line.new.input) c.take_line.new.self c.from_residual.result _ c.from_residual.ensures.1
    (fails_at_head c.args.version start (g.I.Source.seen c.args.input.now) (g.I.Source.seen c.take_line.new.input) c.args.lines.now _ so_far c.in_err-take_line.ensures)

pub returns-in-Ok-clause-count : goal.returns-in-Ok-clause-count
returns-in-Ok-clause-count g c =
    (c.in-Ok.ensures.3, room_behind_head c.args.lines.now c.take_line.new.self c.end_length.result c.in_ok-take_line.ensures.0 c.in_ok-take_line.ensures.2 c.end_length.ensures c.requires)

pub returns-in-Ok-clause-head : goal.returns-in-Ok-clause-head
returns-in-Ok-clause-head g c = λ start so_far. on_head c.args.version c.line.result.now c.in-Ok.check so_far c.in_ok-take_line.ensures.0 c.line.ensures c.in-Ok.ensures

pub returns-in-Err-Stops-clause-head : goal.returns-in-Err-Stops-clause-head
returns-in-Err-Stops-clause-head g c = λ start so_far.
    on_no_head c.args.version c.end_length.result c.line.result.now c.in_ok-take_line.field-0 so_far c.in_ok-take_line.ensures c.line.ensures
    (not_opened c.args.plan.now c.args.version c.opening.result c.in-Err-Stops.field-0 c.in-Err-Stops.field-0-0 c.in-Err-Stops.is c.in-Err-Stops.field-0-is c.opening.ensures)

pub returns-in-Err-NoMemory-clause-head : goal.returns-in-Err-NoMemory-clause-head
returns-in-Err-NoMemory-clause-head g c = λ start so_far. no_room_at_head c.args.version so_far c.in_ok-take_line.ensures.0
