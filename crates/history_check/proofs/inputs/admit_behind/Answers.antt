use Rattle.history_check.proofs.Steps.{handed_on_whole, opened_none, opened_some}
use Rattle.history_check.proofs.Admissions.{finished_input}
use Rattle.history_check.proofs.inputs.admit_behind.Goals as goal

pub returns-in_err-opened : goal.returns-in_err-opened
returns-in_err-opened g c = λ start so_far.
    handed_on_whole c.args.plan.now start (g.I.Source.seen c.open_check.new.input) c.from_residual.result _ c.from_residual.ensures.1
    (c.in_err-opened.ensures.head start so_far)

pub returns-in-None : goal.returns-in-None
returns-in-None g c = λ start so_far.
    opened_none c.args.plan.now start (g.I.Source.seen c.open_check.new.input) c.open_check.new.lines c.in_ok-opened.opened c.in-None.is
    (c.in_ok-opened.ensures.head start so_far)

pub returns-in-Ok : goal.returns-in-Ok
returns-in-Ok g c = λ start so_far.
    finished_input c.args.plan.now start (g.I.Source.seen c.check_lines.new.input) c.check_lines.new.check c.in-Ok.answer c.finish.result
    (c.in-Ok.ensures c.args.plan.now start
    (opened_some c.args.plan.now start (g.I.Source.seen c.open_check.new.input) c.open_check.new.lines c.in_ok-opened.opened c.in-Some.check c.in-Some.is
    (c.in_ok-opened.ensures.head start so_far)))
    c.finish.ensures

pub returns-in-Err : goal.returns-in-Err
returns-in-Err g c = λ start so_far.
    c.in-Err.ensures c.args.plan.now start
    (opened_some c.args.plan.now start (g.I.Source.seen c.open_check.new.input) c.open_check.new.lines c.in_ok-opened.opened c.in-Some.check c.in-Some.is
    (c.in_ok-opened.ensures.head start so_far))
