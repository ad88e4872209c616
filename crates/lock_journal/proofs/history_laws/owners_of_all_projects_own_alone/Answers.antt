-- The changes can't be made.
use Rattle.lock_journal.proofs.WorkedRows.{all_beside_another_unlawful, another_beside_all_unlawful}
use Rattle.lock_journal.proofs.history_laws.owners_of_all_projects_own_alone.Goals as goal

pub returns : goal.returns
returns c = record { beside = all_beside_another_unlawful; another = another_beside_all_unlawful }
