use Rattle.std.proofs.Common.{length, arith}
use Rattle.item_actions.proofs.Runs.{first_at}
use Rattle.item_actions.proofs.run_state.first_run.Goals as goal

pub returns-in-Some : goal.returns-in-Some
returns-in-Some c =
    let found = c.in-Some.ensures in
    first_at c.args.bytes.now c.in-Some.end (omega (arith, found.0.high)) (λ k l. found.0.before k (omega arith) l) (λ l. found.1)

pub returns-in-None : goal.returns-in-None
returns-in-None c = first_at c.args.bytes.now (length c.args.bytes.now) (omega arith) (λ k l. c.in-None.ensures k (omega arith) l) (λ l. absurd (omega arith))
