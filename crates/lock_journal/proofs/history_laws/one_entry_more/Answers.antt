-- Each is a lemma.
use Rattle.lock_journal.proofs.lemmas.Growing.{lawful-push, replay-push, closings-push, outcome_in-push, closed_by-push, faults_by-push}
use Rattle.lock_journal.proofs.history_laws.one_entry_more.Goals as goal

pub returns : goal.returns
returns c = record { lawful = lawful-push; replay = replay-push; closings = closings-push; outcome = outcome_in-push; closed = closed_by-push; faults = faults_by-push }
