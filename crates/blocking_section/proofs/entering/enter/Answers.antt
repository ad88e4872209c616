use Rattle.std.proofs.Common.{rules, Ok, ap, ◌∙◌, subst}
use Rattle.coordination.proofs.lemmas.Shown.{stopped_for, stopped_shows, surely_finished}
use Rattle.blocking_section.specs.Sections.{IsGivenBackBy}
use Rattle.blocking_section.proofs.Entered.{given_back, not_ready, nothing_meanwhile, set_down_shows}
use Rattle.blocking_section.proofs.Ready.{never_unready, only_with_unit}
use Rattle.blocking_section.proofs.entering.enter.Goals as goal

pub returns-clause-shows : goal.returns-clause-shows
returns-clause-shows g c = set_down_shows (surely_finished c.in_ok-with_state_lock.field-0 (λ e. c.with_state_lock.ensures.finished (c.in_ok-with_state_lock.was ∙ ap Ok e)) (λ e. c.with_state_lock.ensures.failed (c.in_ok-with_state_lock.was ∙ ap Ok e)))

pub returns-clause-meanwhile : goal.returns-clause-meanwhile
returns-clause-meanwhile g c = nothing_meanwhile (set_down_shows (surely_finished c.in_ok-with_state_lock.field-0 (λ e. c.with_state_lock.ensures.finished (c.in_ok-with_state_lock.was ∙ ap Ok e)) (λ e. c.with_state_lock.ensures.failed (c.in_ok-with_state_lock.was ∙ ap Ok e))))

pub returns-clause-own : goal.returns-clause-own
returns-clause-own g c =
    let shows = set_down_shows (surely_finished c.in_ok-with_state_lock.field-0 (λ e. c.with_state_lock.ensures.finished (c.in_ok-with_state_lock.was ∙ ap Ok e)) (λ e. c.with_state_lock.ensures.failed (c.in_ok-with_state_lock.was ∙ ap Ok e))) in
    let own = given_back c.with_state_lock.ensures.worker c.requires.unit shows in
    subst (IsGivenBackBy c.with_state_lock.new.pass.sight) (search rules) own

pub returns-in_err-with_state_lock-clause-stopped : goal.returns-in_err-with_state_lock-clause-stopped
returns-in_err-with_state_lock-clause-stopped g c = λ by is.
    let stopped = c.with_state_lock.ensures.stopped by (search rules) in
    (stopped_for stopped (not_ready c.args.unit c.args.pass.now.sight stopped.book stopped.found c.requires.lease c.requires.unit stopped.cause), stopped_shows stopped)

pub returns-in_err-with_state_lock-clause-without : goal.returns-in_err-with_state_lock-clause-without
returns-in_err-with_state_lock-clause-without g c = λ none by is.
    let stopped = c.with_state_lock.ensures.stopped by (search rules) in
    only_with_unit c.args.unit stopped.book.graph c.args.pass.now.sight.worker stopped.book.state none (not_ready c.args.unit c.args.pass.now.sight stopped.book stopped.found c.requires.lease c.requires.unit stopped.cause)

pub returns-in_err-with_state_lock-clause-ready : goal.returns-in_err-with_state_lock-clause-ready
returns-in_err-with_state_lock-clause-ready g c = λ could by is.
    let stopped = c.with_state_lock.ensures.stopped by (search rules) in
    never_unready c.args.unit c.args.pass.now.sight stopped.book stopped.found could (not_ready c.args.unit c.args.pass.now.sight stopped.book stopped.found c.requires.lease c.requires.unit stopped.cause)
