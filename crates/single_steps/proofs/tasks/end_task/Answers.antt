use Rattle.std.proofs.Common.{rules, ◌∙◌, ap, Ok}
use Rattle.coordination.proofs.lemmas.Shown.{looked_shows, stopped_for, stopped_shows, surely_finished}
use Rattle.async_tracker.proofs.lemmas.After.{halted, on_err}
use Rattle.async_tracker.proofs.TaskSteps.{cannot_end, ended_shows}
use Rattle.single_steps.proofs.tasks.end_task.Goals as goal

pub returns-in_err-with_state_lock-clause-kept : goal.returns-in_err-with_state_lock-clause-kept
returns-in_err-with_state_lock-clause-kept g c =
    let e = c.with_state_lock.ensures in
    on_err c.from_residual.result (halted c.with_state_lock.result c.in_err-with_state_lock.field-0.0 c.in_err-with_state_lock.was (λ is. looked_shows (e.no_memory is)) (λ by is. stopped_shows (e.stopped by is)))

pub returns-in_err-with_state_lock-clause-stopped : goal.returns-in_err-with_state_lock-clause-stopped
returns-in_err-with_state_lock-clause-stopped g c = λ by is.
    let stopped = c.with_state_lock.ensures.stopped by (search rules) in
    stopped_for stopped (cannot_end c.args.pass.now.sight stopped.book c.args.task stopped.found c.requires.in_range c.requires.may stopped.cause)

pub returns-clause-shows : goal.returns-clause-shows
returns-clause-shows g c = ended_shows (surely_finished c.in_ok-with_state_lock.field-0 (λ e. c.with_state_lock.ensures.finished (c.in_ok-with_state_lock.was ∙ ap Ok e)) (λ e. c.with_state_lock.ensures.failed (c.in_ok-with_state_lock.was ∙ ap Ok e)))
