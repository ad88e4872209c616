-- The condition of the kind doesn't hold.
use Rattle.lock_journal.proofs.WorkedRows.{start_too_early_unlawful}
use Rattle.lock_journal.proofs.history_laws.early_start_is_unlawful.Goals as goal

pub returns : goal.returns
returns c = start_too_early_unlawful
