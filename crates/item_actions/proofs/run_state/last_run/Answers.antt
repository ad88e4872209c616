use Rattle.std.proofs.Common.{sym, arith}
use Rattle.item_actions.proofs.Runs.{last_at, last_none}
use Rattle.item_actions.proofs.run_state.last_run.Goals as goal

pub returns-in-Some : goal.returns-in-Some
returns-in-Some c =
    let found = c.in-Some.ensures in
    sym (last_at 0 c.args.bytes.now c.in-Some.end found.0.high found.1 (λ k low high. found.0.after k (omega arith) high))

pub returns-in-None : goal.returns-in-None
returns-in-None c = last_none c.args.bytes.now (λ k l. c.in-None.ensures k (omega arith) l)
