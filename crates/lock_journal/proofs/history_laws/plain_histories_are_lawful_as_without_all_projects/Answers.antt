use Rattle.lock_journal.proofs.PlainPlans.{lawful_as_without}
use Rattle.lock_journal.proofs.history_laws.plain_histories_are_lawful_as_without_all_projects.Goals as goal

pub returns : goal.returns
returns c = lawful_as_without
