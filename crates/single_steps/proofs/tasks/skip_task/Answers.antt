use Rattle.std.proofs.Common.{Ok, Err, ap, ◌∙◌}
use Rattle.single_steps.proofs.lemmas.After.{failed_for, ok_is}
use Rattle.single_steps.proofs.TaskSteps.{cannot_skip, is_there, skip_shows}
use Rattle.single_steps.proofs.tasks.skip_task.Goals as goal

pub unreachable-requires : goal.unreachable-requires
unreachable-requires g c =
    let stopped = c.with_state_lock.ensures.stopped c.in-Err-Stopped.field-0-0 (c.in-Err-Stopped.is ∙ ap Err c.in-Err-Stopped.field-0-is) in
    is_there c.args.pass.now.sight stopped.book c.args.task stopped.found c.requires.in_range stopped.cause

pub returns-in-Ok-clause-entry : goal.returns-in-Ok-clause-entry
returns-in-Ok-clause-entry g c = λ is. c.with_state_lock.ensures.finished (c.in-Ok.is ∙ ap Ok (ok_is is))

pub returns-in-Ok-clause-failed : goal.returns-in-Ok-clause-failed
returns-in-Ok-clause-failed g c = λ is.
    let f = c.with_state_lock.ensures.failed (c.in-Ok.is ∙ ap Ok (ok_is is)) in
    failed_for f (cannot_skip c.args.pass.now.sight f.before c.args.task f.found c.requires.rests f.failed.cause)

pub returns-in-Ok-clause-shows : goal.returns-in-Ok-clause-shows
returns-in-Ok-clause-shows g c = let e = c.with_state_lock.ensures in skip_shows c.with_state_lock.result e.finished e.failed e.no_memory e.stopped

pub returns-in-Err-NoMemory-clause-shows : goal.returns-in-Err-NoMemory-clause-shows
returns-in-Err-NoMemory-clause-shows g c = let e = c.with_state_lock.ensures in skip_shows c.with_state_lock.result e.finished e.failed e.no_memory e.stopped
