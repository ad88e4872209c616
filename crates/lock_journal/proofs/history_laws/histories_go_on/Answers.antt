-- Each is a lemma.
use Rattle.lock_journal.proofs.lemmas.Growing.{lawful-front, marks_stay, tasks_stay}
use Rattle.lock_journal.proofs.history_laws.histories_go_on.Goals as goal

pub returns : goal.returns
returns c = record { front = lawful-front; marks = marks_stay; ended = tasks_stay }
