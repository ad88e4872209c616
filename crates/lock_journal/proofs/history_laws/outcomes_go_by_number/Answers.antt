use Rattle.lock_journal.proofs.ByNumber.{outcomes_by_number}
use Rattle.lock_journal.proofs.history_laws.outcomes_go_by_number.Goals as goal

pub returns : goal.returns
returns c = outcomes_by_number
