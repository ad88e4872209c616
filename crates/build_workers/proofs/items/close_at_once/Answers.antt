use Rattle.std.proofs.Common.{Err, ap, ◌∙◌, subst, sym}
use Rattle.std.specs.Prelude.{Contains, IfOk, OnErr}
use Rattle.resource_lock.specs.declared.marks.MarkId.TheVariants.{Unit as UnitOf}
use Rattle.coordination.specs.Names.{HasDecided, AsTold, WaitsAsTold, TellsOwn, claimed_shown}
use Rattle.build_workers.specs.Helping.{HasClosedBefore, MayHaveClosed}
use Rattle.build_workers.proofs.Helping.{closed_before, may_have_closed}
use Rattle.build_workers.proofs.Stepping.{moves_from, of_fields, to_fields, with_pass}
use Rattle.build_workers.proofs.lemmas.Results.{if_ok}
use Rattle.build_workers.proofs.items.close_at_once.Goals as goal
use Rattle.build_workers.proofs.items.close_at_once.Goals.{in-Ok, in-Err}

pub close_then-requires-clause-claimed : goal.close_then-requires-clause-claimed
close_then-requires-clause-claimed g c = to_fields (λ s. Contains (claimed_shown s) (UnitOf c.args.closed.unit)) c.worker.view_is c.requires.claimed

pub returns-clause-moves : goal.returns-clause-moves
returns-clause-moves g c = moves_from c.worker.view_is (with_pass c.close_then.ensures.service)

pub returns-clause-decided : goal.returns-clause-decided
returns-clause-decided g c =
    let Q = g.Q in
    let X = g.Q.Step.Transform in
    let q = c.args.next.now in
    let closed = c.args.closed in
    let old = c.worker.inside.pass.sight in
    let new = c.close_then.new.pass.sight in
    let given =
    closed_before closed old (AsTold TellsOwn (Q.Question.answers q)) (WaitsAsTold TellsOwn (Q.Question.waits_on q)) (Q.Decision.step_of q) X.kind_of X.makes X.fails_on X.retries_on
    new c.close_then.result c.close_then.ensures.decided in
    of_fields (λ s. IfOk c.match-close_then.result (λ a. HasClosedBefore closed s (λ x. HasDecided (AsTold TellsOwn (Q.Question.answers q)) (Q.Decision.step_of q) X.kind_of X.makes X.fails_on X.retries_on x new a))) c.worker.view_is (elim c.match-close_then.branch [
      | in-Ok w ↦ subst (λ r. IfOk r (λ a. HasClosedBefore closed old (λ x. HasDecided (AsTold TellsOwn (Q.Question.answers q)) (Q.Decision.step_of q) X.kind_of X.makes X.fails_on X.retries_on x new a))) (sym w.result-is)
          (if_ok (λ a. HasClosedBefore closed old (λ x. HasDecided (AsTold TellsOwn (Q.Question.answers q)) (Q.Decision.step_of q) X.kind_of X.makes X.fails_on X.retries_on x new a)) c.close_then.result w.in-Ok.decided w.in-Ok.is given)
      | in-Err w ↦ subst (λ r. IfOk r (λ a. HasClosedBefore closed old (λ x. HasDecided (AsTold TellsOwn (Q.Question.answers q)) (Q.Decision.step_of q) X.kind_of X.makes X.fails_on X.retries_on x new a))) (sym w.result-is) tt
    ])

pub returns-clause-closed : goal.returns-clause-closed
returns-clause-closed g c =
    let Q = g.Q in
    let q = c.args.next.now in
    let closed = c.args.closed in
    let old = c.worker.inside.pass.sight in
    let new = c.close_then.new.pass.sight in
    let e = c.close_then.ensures in
    of_fields (λ s. OnErr c.match-close_then.result (MayHaveClosed closed s new)) c.worker.view_is (elim c.match-close_then.branch [
      | in-Ok w ↦ subst (λ r. OnErr r (MayHaveClosed closed old new)) (sym w.result-is) tt
      | in-Err w ↦ subst (λ r. OnErr r (MayHaveClosed closed old new)) (sym w.result-is)
          (may_have_closed closed old {answers = AsTold TellsOwn (Q.Question.answers q)} {waits = WaitsAsTold TellsOwn (Q.Question.waits_on q)} {step_of = Q.Decision.step_of q} {new = new} w.in-Err.halt
          (λ at. e.not_closed (w.in-Err.is ∙ ap Err at)) (λ at. e.no_memory (w.in-Err.is ∙ ap Err at)) (λ by at. e.stopped by (w.in-Err.is ∙ ap Err at)))
    ])
