-- Both are lemmas.
use Rattle.lock_journal.proofs.lemmas.OwnTasks.{actions_stay, waiting_units_stay}
use Rattle.lock_journal.proofs.history_laws.running_tasks_are_left_alone.Goals as goal

pub returns : goal.returns
returns c = record { actions = actions_stay; units = waiting_units_stay }
