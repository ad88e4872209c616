use Rattle.coordination.proofs.Calls.{failed_if, finished_if, was_stopped}
use Rattle.coordination.proofs.services.Coordination.with_state_lock.Goals as goal

pub returns-clause-finished : goal.returns-clause-finished
returns-clause-finished g c =
    let T = g.T.Transform in
    let t = c.args.transform.now in
    finished_if (T.kind_of t) (T.makes t) (T.fails_on t) c.args.pass.now.sight c.take_turn.new.pass.sight c.take_turn.result c.take_turn.ensures.done

pub returns-clause-failed : goal.returns-clause-failed
returns-clause-failed g c =
    let T = g.T.Transform in
    let t = c.args.transform.now in
    failed_if (T.kind_of t) (T.makes t) (T.fails_on t) c.args.pass.now.sight c.take_turn.new.pass.sight c.take_turn.result c.take_turn.ensures.done

pub returns-clause-no_memory : goal.returns-clause-no_memory
returns-clause-no_memory g c = λ is. (c.take_turn.ensures.no_memory is).0

pub returns-clause-stopped : goal.returns-clause-stopped
returns-clause-stopped g c = λ by is. was_stopped (g.T.Transform.retries_on c.args.transform.now) by c.args.pass.now.sight c.take_turn.new.pass.sight (c.take_turn.ensures.stopped by is)
