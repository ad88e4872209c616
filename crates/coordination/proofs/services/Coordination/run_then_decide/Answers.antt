use Rattle.std.proofs.lemmas.Result.{IfOk-weaker}
use Rattle.worker_notes.specs.Offered.{AreTold, AsTold, WaitsAsTold}
use Rattle.coordination.proofs.Calls.{has_followed, was_stopped}
use Rattle.coordination.proofs.services.Coordination.run_then_decide.Goals as goal

pub returns-clause-followed : goal.returns-clause-followed
returns-clause-followed g c =
    let T = g.T.Transform in
    let t = c.args.transform.now in
    let Q = g.Q in
    let X = g.Q.Step.Transform in
    let q = c.args.decision.now in
    IfOk-weaker c.take_turn.result _ _
    (λ d h. has_followed (AsTold (AreTold g.O.Offers.tells) (Q.Question.answers q)) (Q.Decision.step_of q) X.kind_of X.makes X.fails_on X.retries_on (WaitsAsTold (AreTold g.O.Offers.tells) (Q.Question.waits_on q)) (T.kind_of t) (T.makes t) (T.fails_on t)
    c.args.pass.now.sight c.take_turn.new.pass.sight d h) c.take_turn.ensures.done

pub returns-clause-no_memory : goal.returns-clause-no_memory
returns-clause-no_memory g c = λ is. (c.take_turn.ensures.no_memory is).0

pub returns-clause-stopped : goal.returns-clause-stopped
returns-clause-stopped g c = λ by is. was_stopped (g.T.Transform.retries_on c.args.transform.now) by c.args.pass.now.sight c.take_turn.new.pass.sight (c.take_turn.ensures.stopped by is)
