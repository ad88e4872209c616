use Rattle.coordination.specs.Names.{HasDecided, AsTold, TellsOwn}
use Rattle.build_workers.proofs.Helping.{closed_alone, closed_in_vain}
use Rattle.build_workers.proofs.lemmas.Results.{of_ok}
use Rattle.build_workers.proofs.Stepping.{moves_then}
use Rattle.build_workers.proofs.items.close_and_decide.Goals as goal

pub returns-in_ok-close_alone-in_default-clause-moves : goal.returns-in_ok-close_alone-in_default-clause-moves
returns-in_ok-close_alone-in_default-clause-moves g c = moves_then c.close_alone.ensures.moves c.decide.ensures.moves

pub returns-in_ok-close_alone-in_default-clause-decided : goal.returns-in_ok-close_alone-in_default-clause-decided
returns-in_ok-close_alone-in_default-clause-decided g c =
    let Q = g.Q in
    let X = g.Q.Step.Transform in
    let q = c.args.next.now in
    let alone = c.in_ok-close_alone-in_default in
    closed_alone c.args.ran.closed c.args.worker.now.pass.sight (λ a x. HasDecided (AsTold TellsOwn (Q.Question.answers q)) (Q.Decision.step_of q) X.kind_of X.makes X.fails_on X.retries_on x c.decide.new.worker.pass.sight a) c.decide.result
    (of_ok c.close_alone.result alone.field-0 alone.was c.close_alone.ensures.closed) (of_ok c.close_alone.result alone.field-0 alone.was c.close_alone.ensures.shows) c.decide.ensures.decided

pub returns-in_ok-close_alone-in_default-clause-closed : goal.returns-in_ok-close_alone-in_default-clause-closed
returns-in_ok-close_alone-in_default-clause-closed g c =
    let alone = c.in_ok-close_alone-in_default in
    closed_in_vain c.args.ran.closed c.args.worker.now.pass.sight c.decide.new.worker.pass.sight c.decide.result (of_ok c.close_alone.result alone.field-0 alone.was c.close_alone.ensures.closed) c.decide.ensures.closed
