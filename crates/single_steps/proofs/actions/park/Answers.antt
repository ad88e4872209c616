use Rattle.std.proofs.Common.{rules, ◌∙◌, ap, Ok}
use Rattle.lock_journal.specs.Names.{action_of, lock_with}
use Rattle.coordination.proofs.lemmas.Shown.{looked_shows, stopped_for, stopped_shows, surely_finished}
use Rattle.async_tracker.proofs.lemmas.After.{halted, on_err}
use Rattle.async_tracker.proofs.Parking.{not_queued, parked_by, parked_free, parked_shows, parked_waits}
use Rattle.single_steps.proofs.actions.park.Goals as goal

pub returns-in_err-with_state_lock-clause-kept : goal.returns-in_err-with_state_lock-clause-kept
returns-in_err-with_state_lock-clause-kept g c =
    let e = c.with_state_lock.ensures in
    on_err c.from_residual.result (halted c.with_state_lock.result c.in_err-with_state_lock.field-0.0 c.in_err-with_state_lock.was (λ is. looked_shows (e.no_memory is)) (λ by is. stopped_shows (e.stopped by is)))

pub returns-in_err-with_state_lock-clause-stopped : goal.returns-in_err-with_state_lock-clause-stopped
returns-in_err-with_state_lock-clause-stopped g c = λ by is.
    let stopped = c.with_state_lock.ensures.stopped by (search rules) in
    stopped_for stopped (not_queued c.args.pass.now.sight stopped.book c.args.action stopped.found c.requires.in_range c.requires.works c.requires.lock stopped.cause)

pub returns-clause-shows : goal.returns-clause-shows
returns-clause-shows g c = parked_shows (surely_finished c.in_ok-with_state_lock.field-0 (λ e. c.with_state_lock.ensures.finished (c.in_ok-with_state_lock.was ∙ ap Ok e)) (λ e. c.with_state_lock.ensures.failed (c.in_ok-with_state_lock.was ∙ ap Ok e)))

pub returns-clause-own : goal.returns-clause-own
returns-clause-own g c =
    let shows = parked_shows (surely_finished c.in_ok-with_state_lock.field-0 (λ e. c.with_state_lock.ensures.finished (c.in_ok-with_state_lock.was ∙ ap Ok e)) (λ e. c.with_state_lock.ensures.failed (c.in_ok-with_state_lock.was ∙ ap Ok e))) in
    parked_by c.new.result (search rules) (search rules) shows

pub returns-clause-free : goal.returns-clause-free
returns-clause-free g c =
    let finished = surely_finished c.in_ok-with_state_lock.field-0 (λ e. c.with_state_lock.ensures.finished (c.in_ok-with_state_lock.was ∙ ap Ok e)) (λ e. c.with_state_lock.ensures.failed (c.in_ok-with_state_lock.was ∙ ap Ok e)) in
    let graph = c.args.pass.now.sight.seen.graph in
    parked_free (action_of graph c.args.action).retention (lock_with graph c.args.action) finished c.requires.works.lease (parked_shows finished)

pub returns-clause-waits : goal.returns-clause-waits
returns-clause-waits g c =
    let finished = surely_finished c.in_ok-with_state_lock.field-0 (λ e. c.with_state_lock.ensures.finished (c.in_ok-with_state_lock.was ∙ ap Ok e)) (λ e. c.with_state_lock.ensures.failed (c.in_ok-with_state_lock.was ∙ ap Ok e)) in
    let graph = c.args.pass.now.sight.seen.graph in
    parked_waits c.args.action (action_of graph c.args.action).retention (lock_with graph c.args.action) (parked_shows finished)
