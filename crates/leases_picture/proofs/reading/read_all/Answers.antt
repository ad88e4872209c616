use Rattle.std.proofs.Common.{rules}
use Rattle.leases_picture.proofs.Taken.{failed_then, more_then, ended_then, full_then}
use Rattle.leases_picture.proofs.reading.read_all.Goals as goal

pub returns-in_err-take_piece-clause-failed : goal.returns-in_err-take_piece-clause-failed
returns-in_err-take_piece-clause-failed g c =
    failed_then (g.I.Source.seen c.args.input.now) (g.I.Source.seen c.loop-text.input) (g.I.Source.seen c.take_piece.new.input) c.loop-text.text.items c.take_piece.new.text.items 0 c.from_residual.result c.in_err-take_piece.field-0.0
    c.loop-text.invariant c.from_residual.ensures.1 c.in_err-take_piece.ensures

pub returns-then-not-branch-clause-ok : goal.returns-then-not-branch-clause-ok
returns-then-not-branch-clause-ok g c =
    ended_then (g.I.Source.seen c.args.input.now) (g.I.Source.seen c.loop-text.input) (g.I.Source.seen c.take_piece.new.input) c.loop-text.text.items c.take_piece.new.text.items _ _
    c.if-not-branch.true c.loop-text.invariant c.in_ok-take_piece.ensures

pub loop-text-preserved : goal.loop-text-preserved
loop-text-preserved g c =
    more_then (g.I.Source.seen c.args.input.now) (g.I.Source.seen c.loop-text.input) (g.I.Source.seen c.take_piece.new.input) c.loop-text.text.items c.take_piece.new.text.items _ _
    c.if-not-branch.false c.loop-text.invariant c.in_ok-take_piece.ensures (search rules)
