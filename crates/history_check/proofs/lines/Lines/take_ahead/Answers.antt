use Rattle.std.proofs.Common.{rules, ◌≡◌, ◌-◌, arith}
use Rattle.history_check.proofs.Supplies.{rest_taken}
use Rattle.history_check.proofs.lines.Lines.take_ahead.Goals as goal

pub returns : goal.returns
returns g c =
    let text : c.self.inside.line.items ≡ c.args.self.now.line = search rules in
    rest_taken {old = g.I.Source.seen c.args.input.now} {new = g.I.Source.seen c.take_ahead.new.self} {was = c.args.self.now}
    {is = record { line = c.take_ahead.new.line.items; ahead = c.self.inside.ahead.items; room = c.self.inside.room - c.in_ok-count.count }}
    c.self.inside.line.items c.deref.result.now _ c.in_ok-count.count c.ends_line.result text c.deref.ensures.value c.requires c.in_ok-count.ensures.taken c.in_ok-count.ensures.counted
    (search rules) (search rules) (search rules) (omega (arith, c.if-count-eq0.false)) c.ends_line.ensures
