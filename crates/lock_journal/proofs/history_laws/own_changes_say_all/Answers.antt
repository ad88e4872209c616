-- All are lemmas.
use Rattle.lock_journal.proofs.lemmas.OwnChanges.{own_claimed_all, own_holding_all, own_locks_all}
use Rattle.lock_journal.proofs.history_laws.own_changes_say_all.Goals as goal

pub returns : goal.returns
returns c = record { holding = own_holding_all; locks = own_locks_all; claimed = own_claimed_all }
