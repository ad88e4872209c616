use Rattle.std.proofs.Common.{ap, ◌∙◌, Ok, Err}
use Rattle.async_tracker.proofs.Claiming.{close_never_waits, closed_shows}
use Rattle.async_tracker.proofs.items.close.Goals as goal

pub unreachable-requires-in-Err-Stopped : goal.unreachable-requires-in-Err-Stopped
unreachable-requires-in-Err-Stopped g c =
    let stopped = c.with_state_lock.ensures.stopped c.in-Err-Stopped.field-0-0 (c.in-Err-Stopped.is ∙ ap Err c.in-Err-Stopped.field-0-is) in
    close_never_waits c.args.pass.now.sight stopped.book c.args.unit c.args.outcome stopped.found c.requires.item c.requires.claimed c.requires.lease c.requires.outcome stopped.cause

pub returns-in-Ok-true-clause-shows : goal.returns-in-Ok-true-clause-shows
returns-in-Ok-true-clause-shows g c = closed_shows (c.with_state_lock.ensures.finished (c.in-Ok-true.is ∙ ap Ok c.in-Ok-true.field-0-test))
