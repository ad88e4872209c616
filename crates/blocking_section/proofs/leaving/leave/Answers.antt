use Rattle.std.proofs.Common.{rules, ◌≡◌, true, Ok, sym, ap, ◌∙◌, subst, Option, arith}
use Rattle.lock_journal.specs.Names.{Closed, Unblock, IsDisabled, IsFixedList, rises}
use Rattle.coordination.specs.Calls.{HasFinished, WasStopped}
use Rattle.coordination.proofs.lemmas.Shown.{stopped_for, stopped_shows, surely_finished}
use Rattle.blocking_section.specs.BlockedView.{BlockedView}
use Rattle.blocking_section.specs.Sections.{closed_with}
use Rattle.blocking_section.proofs.Down.{owned_rises}
use Rattle.blocking_section.proofs.Left.{can_not_take_up, locks_again, taken_up_shows}
use Rattle.blocking_section.proofs.leaving.leave.Goals as goal

pub returns-in-Ok-clause-shows : goal.returns-in-Ok-clause-shows
returns-in-Ok-clause-shows g c =
    let finished : HasFinished (Unblock c.closed_with-closed.result) (IsFixedList (Unblock c.closed_with-closed.result)) c.args.pass.now.sight c.with_state_lock.new.pass.sight =
    surely_finished c.in-Ok.field-0 (λ e. c.with_state_lock.ensures.finished (c.in-Ok.is ∙ ap Ok e)) (λ e. c.with_state_lock.ensures.failed (c.in-Ok.is ∙ ap Ok e)) in
    taken_up_shows c.args.blocked.unit c.args.outcome (subst (λ (closed : Option Closed). HasFinished (Unblock closed) (IsFixedList (Unblock closed)) c.args.pass.now.sight c.with_state_lock.new.pass.sight) (search rules) finished) c.requires.outcome

pub returns-in-Ok-clause-locks : goal.returns-in-Ok-clause-locks
returns-in-Ok-clause-locks g c =
    let finished : HasFinished (Unblock c.closed_with-closed.result) (IsFixedList (Unblock c.closed_with-closed.result)) c.args.pass.now.sight c.with_state_lock.new.pass.sight =
    surely_finished c.in-Ok.field-0 (λ e. c.with_state_lock.ensures.finished (c.in-Ok.is ∙ ap Ok e)) (λ e. c.with_state_lock.ensures.failed (c.in-Ok.is ∙ ap Ok e)) in
    let rising : rises 0 c.args.blocked.locks ≡ true = ap (λ (b : BlockedView). rises 0 b.locks) (sym c.blocked.view_is) ∙ owned_rises 0 0 c.blocked.inside.before.value.sight.seen.state.owners c.blocked.inside.before.value.sight.worker (omega arith) in
    locks_again c.args.blocked.unit c.args.outcome (subst (λ (closed : Option Closed). HasFinished (Unblock closed) (IsFixedList (Unblock closed)) c.args.pass.now.sight c.with_state_lock.new.pass.sight) (search rules) finished) c.requires.outcome c.args.blocked.locks rising

pub returns-in-Err-Stopped-clause-stopped : goal.returns-in-Err-Stopped-clause-stopped
returns-in-Err-Stopped-clause-stopped g c = λ b by is.
    let stopped : WasStopped (IsDisabled (Unblock c.closed_with-closed.result)) by c.args.pass.now.sight c.with_state_lock.new.pass.sight =
    c.with_state_lock.ensures.stopped by (search rules) in
    let disabled : IsDisabled (Unblock (closed_with c.args.blocked.unit c.args.outcome)) stopped.book.graph c.args.pass.now.sight.worker stopped.book.state =
    subst (λ (closed : Option Closed). IsDisabled (Unblock closed) stopped.book.graph c.args.pass.now.sight.worker stopped.book.state) (search rules) stopped.cause in
    (search rules, stopped_for stopped (can_not_take_up c.args.blocked c.args.outcome c.args.pass.now.sight stopped.book stopped.found c.requires.own c.requires.outcome disabled), stopped_shows stopped)
