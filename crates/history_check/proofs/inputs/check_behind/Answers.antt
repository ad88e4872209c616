use Rattle.history_check.proofs.Steps.{handed_on_checked, checked_none, opened_some}
use Rattle.history_check.proofs.Admissions.{checked_input}
use Rattle.history_check.proofs.inputs.check_behind.Goals as goal

pub returns-in_err-opened : goal.returns-in_err-opened
returns-in_err-opened g c = λ start so_far.
    handed_on_checked c.args.plan.now start (g.I.Source.seen c.open_check.new.input) c.from_residual.result _ c.from_residual.ensures.1
    (c.in_err-opened.ensures.head start so_far)

pub returns-in-None : goal.returns-in-None
returns-in-None g c = λ start so_far.
    checked_none c.args.plan.now start (g.I.Source.seen c.open_check.new.input) c.open_check.new.lines c.in_ok-opened.opened c.in-None.is
    (c.in_ok-opened.ensures.head start so_far)

pub returns-in-Some : goal.returns-in-Some
returns-in-Some g c = λ start so_far.
    checked_input c.args.plan.now start (g.I.Source.seen c.check_lines-answer.new.input) c.check_lines-answer.new.check c.check_lines-answer.result
    (c.check_lines-answer.ensures c.args.plan.now start
    (opened_some c.args.plan.now start (g.I.Source.seen c.open_check.new.input) c.open_check.new.lines c.in_ok-opened.opened c.in-Some.check c.in-Some.is
    (c.in_ok-opened.ensures.head start so_far)))
