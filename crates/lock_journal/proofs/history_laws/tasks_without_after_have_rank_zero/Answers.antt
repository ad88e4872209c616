-- There is nothing that a rank must be above.
use Rattle.lock_journal.proofs.Depth.{no_after}
use Rattle.lock_journal.proofs.history_laws.tasks_without_after_have_rank_zero.Goals as goal

pub returns : goal.returns
returns c = no_after
