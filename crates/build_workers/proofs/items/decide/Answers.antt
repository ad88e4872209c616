use Rattle.std.proofs.Common.{[]}
use Rattle.std.specs.Prelude.{IfOk, OnErr}
use Rattle.coordination.specs.Names.{HasDecided, AsTold, WaitsAsTold, TellsOwn}
use Rattle.build_workers.specs.Kept.{HasClosed}
use Rattle.build_workers.proofs.Helping.{vain_closes}
use Rattle.build_workers.proofs.Stepping.{moves_from, of_fields, with_pass}
use Rattle.build_workers.proofs.items.decide.Goals as goal

pub returns-clause-moves : goal.returns-clause-moves
returns-clause-moves g c = moves_from c.worker.view_is (with_pass c.decide.ensures.service)

pub returns-clause-decided : goal.returns-clause-decided
returns-clause-decided g c =
    let Q = g.Q in
    let X = g.Q.Step.Transform in
    let q = c.args.next.now in
    of_fields (λ s. IfOk c.decide.result (HasDecided (AsTold TellsOwn (Q.Question.answers q)) (Q.Decision.step_of q) X.kind_of X.makes X.fails_on X.retries_on s c.decide.new.pass.sight)) c.worker.view_is c.decide.ensures.decided

pub returns-clause-closed : goal.returns-clause-closed
returns-clause-closed g c =
    let e = c.decide.ensures in
    of_fields (λ s. OnErr c.decide.result (HasClosed [] s c.decide.new.pass.sight)) c.worker.view_is (vain_closes {waits = WaitsAsTold TellsOwn (g.Q.Question.waits_on c.args.next.now)} c.decide.result (λ is. (e.no_memory is).looked) e.stopped)
