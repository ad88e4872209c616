use Rattle.std.proofs.Common.{rules, subst}
use Rattle.lock_journal.specs.Names.{IsDisabled, Resume}
use Rattle.coordination.proofs.lemmas.Shown.{stopped_for}
use Rattle.single_steps.proofs.lemmas.Resumed.{cannot_resume, looked_none}
use Rattle.single_steps.proofs.resuming.go_on.Goals as goal

pub returns-in_err-with_state_lock-clause-no_memory : goal.returns-in_err-with_state_lock-clause-no_memory
returns-in_err-with_state_lock-clause-no_memory g c = λ is.
    looked_none c.args.parked.now.action c.requires.sound c.requires.ended (c.with_state_lock.ensures.no_memory (search rules))

pub returns-in_err-with_state_lock-clause-stopped : goal.returns-in_err-with_state_lock-clause-stopped
returns-in_err-with_state_lock-clause-stopped g c = λ by is.
    let stopped = c.with_state_lock.ensures.stopped by (search rules) in
    let w = c.args.pass.now.sight.worker in
    stopped_for stopped (cannot_resume c.args.pass.now.sight stopped.book c.args.parked.now c.requires.sound stopped.found c.requires.own c.requires.free c.requires.ended
    (subst (λ a. IsDisabled (Resume a) stopped.book.graph w stopped.book.state) c.action-action.ensures stopped.cause))
