use Rattle.std.proofs.lemmas.Result.{IfOk-weaker}
use Rattle.worker_notes.specs.Offered.{AreTold, AsTold}
use Rattle.coordination.proofs.Calls.{has_decided}
use Rattle.coordination.proofs.services.Coordination.decide.Goals as goal

pub returns-clause-decided : goal.returns-clause-decided
returns-clause-decided g c =
    let Q = g.Q in
    let X = g.Q.Step.Transform in
    let q = c.args.decision.now in
    IfOk-weaker c.take_turn.result _ _
    (λ d h. has_decided (AsTold (AreTold g.O.Offers.tells) (Q.Question.answers q)) (Q.Decision.step_of q) X.kind_of X.makes X.fails_on X.retries_on c.args.pass.now.sight c.take_turn.new.pass.sight d h) c.take_turn.ensures.done

pub returns-clause-no_memory : goal.returns-clause-no_memory
returns-clause-no_memory g c = λ is. let e = c.take_turn.ensures.no_memory is in record { looked = e.0; step = e.1 }
