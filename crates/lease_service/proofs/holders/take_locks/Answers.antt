use Rattle.std.proofs.Common.{◌≡◌, Bool, Result, Ok, Err, sym, ap}
use Rattle.coordination.specs.declared.halts.Halt.{Halt}
use Rattle.coordination.specs.declared.halts.Halt.TheVariants.{Stopped}
use Rattle.lease_service.proofs.lemmas.Halts.{err_at, kept_by, on_err_of}
use Rattle.lease_service.proofs.Taking.{shows_taken, stopped_short}
use Rattle.lease_service.proofs.holders.take_locks.Goals as goal

pub returns-in_err-with_state_lock-clause-kept : goal.returns-in_err-with_state_lock-clause-kept
returns-in_err-with_state_lock-clause-kept g c = on_err_of _ (kept_by c.in_err-with_state_lock.field-0.0 c.in_err-with_state_lock.ensures.no_memory c.in_err-with_state_lock.ensures.stopped)

pub returns-in_err-with_state_lock-clause-stopped : goal.returns-in_err-with_state_lock-clause-stopped
returns-in_err-with_state_lock-clause-stopped g c = λ by is.
    let halt : ◌≡◌ {A = Result Bool Halt} (Err c.in_err-with_state_lock.field-0.0) (Err (Stopped by)) = ap Err (sym (err_at (λ (h : Halt). h ≡ c.in_err-with_state_lock.field-0.0) _ (Stopped by) is c.from_residual.ensures.1)) in
    (stopped_short _ c.args.locks.now c.requires.may (c.in_err-with_state_lock.ensures.stopped by halt)).1

pub returns-clause-taken : goal.returns-clause-taken
returns-clause-taken g c = shows_taken c.args.locks.now (c.in_ok-with_state_lock.ensures.finished (ap Ok c.if-branch.true))
