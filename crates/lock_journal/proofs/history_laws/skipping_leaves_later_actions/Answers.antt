-- No skipped action has a greater number.
use Rattle.lock_journal.proofs.InTurn.{not_reached}
use Rattle.lock_journal.proofs.history_laws.skipping_leaves_later_actions.Goals as goal

pub returns : goal.returns
returns c = not_reached
