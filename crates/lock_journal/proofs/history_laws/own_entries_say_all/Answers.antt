-- Both are lemmas.
use Rattle.lock_journal.proofs.lemmas.Growing.{closed_by-own, same_by_own}
use Rattle.lock_journal.proofs.history_laws.own_entries_say_all.Goals as goal

pub returns : goal.returns
returns c = record { state = same_by_own; closings = closed_by-own }
