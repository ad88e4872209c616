use Rattle.std.proofs.Common.{Ok, Err, sym, ap, ◌∙◌}
use Rattle.coordination.proofs.lemmas.Shown.{failed_shows, looked_shows, stopped_shows}
use Rattle.async_tracker.proofs.TaskSteps.{cannot_start, started_shows}
use Rattle.single_steps.proofs.lemmas.After.{failed_for, ok_is, unless_finished}
use Rattle.single_steps.proofs.TaskSteps.{is_there}
use Rattle.single_steps.proofs.tasks.start_task.Goals as goal

pub unreachable-requires : goal.unreachable-requires
unreachable-requires g c =
    let stopped = c.with_state_lock.ensures.stopped c.in-Err-Stopped.field-0-0 (c.in-Err-Stopped.is ∙ ap Err c.in-Err-Stopped.field-0-is) in
    is_there c.args.pass.now.sight stopped.book c.args.task stopped.found c.requires.in_range stopped.cause

pub returns-in-Ok-clause-entry : goal.returns-in-Ok-clause-entry
returns-in-Ok-clause-entry g c = λ is. c.with_state_lock.ensures.finished (c.in-Ok.is ∙ ap Ok (ok_is is))

pub returns-in-Ok-clause-shows : goal.returns-in-Ok-clause-shows
returns-in-Ok-clause-shows g c = λ is. started_shows (c.with_state_lock.ensures.finished (c.in-Ok.is ∙ ap Ok (ok_is is))) c.requires.rests

pub returns-in-Ok-clause-failed : goal.returns-in-Ok-clause-failed
returns-in-Ok-clause-failed g c = λ is.
    let f = c.with_state_lock.ensures.failed (c.in-Ok.is ∙ ap Ok (ok_is is)) in
    failed_for f (cannot_start c.args.pass.now.sight f.before c.args.task f.found c.requires.rests f.failed.cause)

pub returns-in-Ok-clause-kept : goal.returns-in-Ok-clause-kept
returns-in-Ok-clause-kept g c = λ other.
    let e = c.with_state_lock.ensures in
    unless_finished c.with_state_lock.result (λ is. failed_shows (e.failed is)) (λ is. looked_shows (e.no_memory is)) (λ by is. stopped_shows (e.stopped by is)) (λ is. other (ap Ok (ok_is (sym c.in-Ok.is ∙ is))))

pub returns-in-Err-NoMemory-clause-kept : goal.returns-in-Err-NoMemory-clause-kept
returns-in-Err-NoMemory-clause-kept g c = λ other. looked_shows (c.with_state_lock.ensures.no_memory (c.in-Err-NoMemory.is ∙ ap Err c.in-Err-NoMemory.field-0-is))
