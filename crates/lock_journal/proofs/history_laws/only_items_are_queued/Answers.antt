-- All are lemmas.
use Rattle.lock_journal.proofs.Queue.{queued_is_item, queued_within}
use Rattle.lock_journal.proofs.history_laws.only_items_are_queued.Goals as goal

pub returns : goal.returns
returns c = record { item = queued_is_item; within = queued_within }
