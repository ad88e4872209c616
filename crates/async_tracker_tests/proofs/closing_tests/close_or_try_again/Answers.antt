use Rattle.std.proofs.Common.{Err, ap, sym, subst, ◌∙◌}
use Rattle.lock_journal.specs.Names.{GraphView, UnitOf}
use Rattle.worker_notes.specs.Offered.{AsTold, WaitsAsTold}
use Rattle.coordination.proofs.lemmas.Shown.{looked_shows}
use Rattle.async_tracker.specs.Shows.{IsItemHere}
use Rattle.coordination_tests.proofs.Agreeing.{NothingTold}
use Rattle.async_tracker_tests.proofs.Closing.{ran, runs_yet}
use Rattle.async_tracker_tests.proofs.closing_tests.close_or_try_again.Goals as goal

pub close_then-requires-in-Err-NotClosed-clause-item : goal.close_then-requires-in-Err-NotClosed-clause-item
close_then-requires-in-Err-NotClosed-clause-item g c =
    let looked = c.close_then.ensures.not_closed (c.in-Err-NotClosed.is ∙ ap Err c.in-Err-NotClosed.field-0-is) in
    subst (λ (k : GraphView). IsItemHere k c.args.closed.unit) (sym (looked_shows looked).graph) c.requires.item

pub close_then-requires-in-Err-NotClosed-clause-claimed : goal.close_then-requires-in-Err-NotClosed-clause-claimed
close_then-requires-in-Err-NotClosed-clause-claimed g c =
    runs_yet (UnitOf c.args.closed.unit) (c.close_then.ensures.not_closed (c.in-Err-NotClosed.is ∙ ap Err c.in-Err-NotClosed.field-0-is)) c.requires.claimed

pub close_then-requires-in-Err-NotClosed-clause-lease : goal.close_then-requires-in-Err-NotClosed-clause-lease
close_then-requires-in-Err-NotClosed-clause-lease g c =
    (looked_shows (c.close_then.ensures.not_closed (c.in-Err-NotClosed.is ∙ ap Err c.in-Err-NotClosed.field-0-is))).lease ∙ c.requires.lease

pub returns-in-Err-NotClosed-clause-runs : goal.returns-in-Err-NotClosed-clause-runs
returns-in-Err-NotClosed-clause-runs g c = λ is.
    let first = c.close_then.ensures.not_closed (c.in-Err-NotClosed.is ∙ ap Err c.in-Err-NotClosed.field-0-is) in
    runs_yet (UnitOf c.args.closed.unit) (c.close_then-in-Err-NotClosed.ensures.not_closed is) (runs_yet (UnitOf c.args.closed.unit) first c.requires.claimed)

pub returns-in-Err-NotClosed-clause-has_run : goal.returns-in-Err-NotClosed-clause-has_run
returns-in-Err-NotClosed-clause-has_run g c = λ halt is.
    let Q = g.Q in
    let q = c.args.next.now in
    let e = c.close_then-in-Err-NotClosed in
    ran (AsTold NothingTold (Q.Question.answers q)) (WaitsAsTold NothingTold (Q.Question.waits_on q)) (Q.Decision.step_of q) c.args.closed _ e.new.pass.sight e.result halt is e.ensures.no_memory e.ensures.stopped

pub returns-in-Err-Closed-clause-has_run : goal.returns-in-Err-Closed-clause-has_run
returns-in-Err-Closed-clause-has_run g c = λ halt is.
    let Q = g.Q in
    let q = c.args.next.now in
    let e = c.close_then in
    ran (AsTold NothingTold (Q.Question.answers q)) (WaitsAsTold NothingTold (Q.Question.waits_on q)) (Q.Decision.step_of q) c.args.closed _ e.new.pass.sight e.result halt
    (c.in-Err-Closed.is ∙ ap Err c.in-Err-Closed.field-0-is ∙ is) e.ensures.no_memory e.ensures.stopped
