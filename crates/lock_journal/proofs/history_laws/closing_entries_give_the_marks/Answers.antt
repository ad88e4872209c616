-- Both are lemmas.
use Rattle.lock_journal.proofs.Closing.{closed_once, never_closed}
use Rattle.lock_journal.proofs.history_laws.closing_entries_give_the_marks.Goals as goal

pub returns : goal.returns
returns c = record { once = closed_once; never = never_closed }
