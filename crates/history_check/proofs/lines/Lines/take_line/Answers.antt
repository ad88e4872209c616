use Rattle.std.proofs.Common.{refl}
use Rattle.history_check.proofs.Supplies.{ahead_ended, ahead_read, line_cut_off, line_lost, not_split}
use Rattle.history_check.proofs.lines.Lines.take_line.Goals as goal

pub returns-then-branch-2 : goal.returns-then-branch-2
returns-then-branch-2 g c =
    ahead_ended {read = c.loop-self.self} {held = c.split.new.self} c.args.expected c.args.least c.in_ok-take_ahead.field-0 c.loop-self.invariant.reading (not_split c.loop-self.looked _ _ _ c.if-branch.false c.in_ok-split.ensures)
    c.if-branch-2.true c.in_ok-take_ahead.ensures

pub returns-then-not-branch : goal.returns-then-not-branch
returns-then-not-branch g c =
    line_cut_off {read = c.take_ahead.new.self} c.args.expected c.args.least c.wanted-most.result c.in_ok-take_piece.field-0
    (ahead_read {read = c.loop-self.self} {held = c.split.new.self} c.in_ok-take_ahead.field-0 c.loop-self.invariant.reading (not_split c.loop-self.looked _ _ _ c.if-branch.false c.in_ok-split.ensures) c.if-branch-2.false c.in_ok-take_ahead.ensures)
    c.if-not-branch.true c.in_ok-take_piece.ensures

pub returns-in_err-take_piece : goal.returns-in_err-take_piece
returns-in_err-take_piece g c =
    let read = ahead_read {read = c.loop-self.self} {held = c.split.new.self} c.in_ok-take_ahead.field-0 c.loop-self.invariant.reading (not_split c.loop-self.looked _ _ _ c.if-branch.false c.in_ok-split.ensures)
    c.if-branch-2.false c.in_ok-take_ahead.ensures in
    line_lost c.args.expected c.args.least (g.I.Source.seen c.args.input.now) (g.I.Source.seen c.take_ahead.new.input) (g.I.Source.seen c.take_piece.new.input) c.args.self.now c.take_ahead.new.self c.take_ahead.new.self c.take_piece.new.self
    c.wanted-most.result c.from_residual-in_err-take_piece.result c.in_err-take_piece.field-0.0 read.0 (read.1, refl) c.from_residual-in_err-take_piece.ensures.1 c.in_err-take_piece.ensures
