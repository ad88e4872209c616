use Rattle.std.proofs.lemmas.Result.{IfOk-weaker}
use Rattle.worker_notes.specs.Offered.{AreTold, AsTold}
use Rattle.coordination.proofs.Calls.{is_answered}
use Rattle.coordination.proofs.services.Coordination.ask.Goals as goal

pub returns-clause-answered : goal.returns-clause-answered
returns-clause-answered g c =
    let Q = g.Q.Question in
    let q = c.args.question.now in
    IfOk-weaker c.take_turn.result _ _ (λ a h. is_answered (AsTold (AreTold g.O.Offers.tells) (Q.answers q)) c.args.pass.now.sight c.take_turn.new.pass.sight a h) c.take_turn.ensures.done

pub returns-clause-memory : goal.returns-clause-memory
returns-clause-memory g c = λ is. (c.take_turn.ensures.no_memory is).1
