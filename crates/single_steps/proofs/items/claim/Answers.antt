use Rattle.coordination.proofs.lemmas.Shown.{failed_shows, looked_shows, stopped_for, stopped_shows}
use Rattle.async_tracker.proofs.Claiming.{claimed_shows}
use Rattle.single_steps.proofs.lemmas.After.{unless_finished}
use Rattle.single_steps.proofs.Claiming.{claim_needs_lease}
use Rattle.single_steps.proofs.items.claim.Goals as goal

pub returns-clause-shows : goal.returns-clause-shows
returns-clause-shows g c = λ is. claimed_shows (c.with_state_lock.ensures.finished is)

pub returns-clause-kept : goal.returns-clause-kept
returns-clause-kept g c =
    let e = c.with_state_lock.ensures in
    unless_finished c.with_state_lock.result (λ is. failed_shows (e.failed is)) (λ is. looked_shows (e.no_memory is)) (λ by is. stopped_shows (e.stopped by is))

pub returns-clause-stopped : goal.returns-clause-stopped
returns-clause-stopped g c = λ by is.
    let stopped = c.with_state_lock.ensures.stopped by is in
    stopped_for stopped (claim_needs_lease c.args.pass.now.sight stopped.book c.args.unit stopped.found c.requires.item c.requires.free c.requires.may stopped.cause)
