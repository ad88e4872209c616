use Rattle.std.proofs.Common.{◌≡◌, ◌+◌, ◌<◌, length, arith}
use Rattle.history_check.specs.Checking.{unread}
use Rattle.history_check.specs.declared.inputs.TheConstants.{LEAST_HISTORY}
use Rattle.history_check.proofs.Rooms.{ahead_of_any, less_by_line, line_has_some, room_behind_first}
use Rattle.history_check.proofs.Steps.{handed_on_before, fails_before, not_found, passed_over, cut_there, whole_there}
use Rattle.history_check.proofs.inputs.find_head.Goals as goal

pub returns-in_err-is_whole-clause-head : goal.returns-in_err-is_whole-clause-head
returns-in_err-is_whole-clause-head g c =
    handed_on_before (g.I.Source.seen c.args.input.now) (g.I.Source.seen c.take_line.new.input) c.take_line.new.self c.from_residual.result _ c.from_residual.ensures.1
    (fails_before (g.I.Source.seen c.args.input.now) (g.I.Source.seen c.loop-is_whole.input) (g.I.Source.seen c.take_line.new.input) c.loop-is_whole.lines _ c.loop-is_whole.invariant.taken c.in_err-is_whole.ensures)

pub returns-in-Some-clause-room : goal.returns-in-Some-clause-room
returns-in-Some-clause-room g c =
    room_behind_first c.in-Some.version c.loop-is_whole.lines c.take_line.new.self c.line.result.now c.in_ok-is_whole.ensures.0 c.in_ok-is_whole.ensures.2 c.loop-is_whole.invariant.room c.line.ensures
    c.in-Some.ensures.some

pub returns-then-not-is_whole-clause-head : goal.returns-then-not-is_whole-clause-head
returns-then-not-is_whole-clause-head g c =
    not_found c.line.result.now c.loop-is_whole.invariant.taken c.in_ok-is_whole.ensures.0
    (cut_there (g.I.Source.seen c.take_line.new.input).left c.take_line.new.self c.in_ok-is_whole.is_whole c.if-not-is_whole.true c.in_ok-is_whole.ensures.1)
    c.line.ensures c.in_default.ensures.none

pub loop-is_whole-smaller : goal.loop-is_whole-smaller
loop-is_whole-smaller g c =
    let left : unread c.take_line.new.self + length c.take_line.new.self.line ≡ unread c.loop-is_whole.lines = less_by_line c.loop-is_whole.lines c.take_line.new.self c.in_ok-is_whole.ensures.0 in
    let some : 0 < length c.take_line.new.self.line =
    line_has_some c.take_line.new.self.line (whole_there (g.I.Source.seen c.take_line.new.input).left c.take_line.new.self c.in_ok-is_whole.is_whole c.if-not-is_whole.false c.in_ok-is_whole.ensures.1) in
    omega (arith, left, some)

pub loop-is_whole-preserved : goal.loop-is_whole-preserved
loop-is_whole-preserved g c =
    let left : unread c.take_line.new.self + length c.take_line.new.self.line ≡ unread c.loop-is_whole.lines = less_by_line c.loop-is_whole.lines c.take_line.new.self c.in_ok-is_whole.ensures.0 in
    record {
      taken = passed_over c.line.result.now c.loop-is_whole.invariant.taken c.in_ok-is_whole.ensures.0
          (whole_there (g.I.Source.seen c.take_line.new.input).left c.take_line.new.self c.in_ok-is_whole.is_whole c.if-not-is_whole.false c.in_ok-is_whole.ensures.1)
          c.line.ensures c.in_default.ensures.none;
      ahead = ahead_of_any LEAST_HISTORY c.take_line.new.self c.in_ok-is_whole.ensures.2;
      room = omega (arith, left, c.loop-is_whole.invariant.room);
    }
