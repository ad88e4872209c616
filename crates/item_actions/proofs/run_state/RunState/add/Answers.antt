use Rattle.item_actions.proofs.Runs.{runs_on, runs_off, run_short}
use Rattle.item_actions.proofs.run_state.RunState.add.Goals as goal

pub returns-then-first-piece : goal.returns-then-first-piece
returns-then-first-piece c = λ bytes fits h. runs_on _ _ bytes c.args.piece.now _ _ _ fits c.first_run-first.ensures c.if-first-piece.true c.saturating_add-run.ensures c.max-self.ensures h

pub returns-else-first-piece : goal.returns-else-first-piece
returns-else-first-piece c = λ bytes fits h.
    runs_off _ _ bytes c.args.piece.now _ _ _ _ _ _ fits c.first_run-first.ensures (run_short c.args.piece.now _ c.first_run-first.ensures c.if-first-piece.false)
    c.saturating_add-run.ensures c.max.ensures c.longest_in.ensures c.max-self-else-first-piece.ensures c.last_run.ensures h
