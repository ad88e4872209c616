use Rattle.coordination.specs.Names.{HasDecided, AsTold, TellsOwn}
use Rattle.build_workers.proofs.Helping.{broke_off, ran_before}
use Rattle.build_workers.proofs.items.run_and_close.Goals as goal

pub returns-clause-ran : goal.returns-clause-ran
returns-clause-ran g c =
    let Q = g.Q in
    let X = g.Q.Step.Transform in
    let q = c.args.next.now in
    let ran = c.run_claimed-ran in
    let left = c.close_and_decide in
    rw (← ran.ensures.unit) (ran_before c.args.site.now c.args.worker.now c.requires.of ran.result.closed ran.ensures.ran left.ensures.moves
    (λ d s. HasDecided (AsTold TellsOwn (Q.Question.answers q)) (Q.Decision.step_of q) X.kind_of X.makes X.fails_on X.retries_on s left.new.worker.pass.sight d) left.result left.ensures.decided)

pub returns-clause-broken_off : goal.returns-clause-broken_off
returns-clause-broken_off g c =
    let ran = c.run_claimed-ran in
    let left = c.close_and_decide in
    broke_off c.args.site.now c.args.worker.now c.requires.of ran.result.closed ran.ensures.ran left.ensures.moves left.result left.ensures.closed
