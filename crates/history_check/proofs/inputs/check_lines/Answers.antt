use Rattle.history_check.proofs.Steps.{handed_on_ended, answered_there}
use Rattle.history_check.proofs.inputs.check_lines.Goals as goal

pub returns-in_err-next : goal.returns-in_err-next
returns-in_err-next g c = λ p start u.
    handed_on_ended p start (g.I.Source.seen c.check_next.new.input) c.check_next.new.check c.from_residual.result _ c.from_residual.ensures.1
    (c.in_err-next.ensures.goes_on p start (c.loop-next.invariant.underway p start u))

pub returns-in-Some : goal.returns-in-Some
returns-in-Some g c = λ p start u.
    answered_there p start (g.I.Source.seen c.check_next.new.input) c.check_next.new.lines c.check_next.new.check c.in_ok-next.next c.in-Some.answer c.in-Some.is
    (c.in_ok-next.ensures.goes_on p start (c.loop-next.invariant.underway p start u))
