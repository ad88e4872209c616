-- Each is a lemma.
use Rattle.lock_journal.proofs.Giving.{cut_later, given_cut, given_turn, joined_whole, replayed_in_turn}
use Rattle.lock_journal.proofs.history_laws.segments_are_one_history.Goals as goal

pub returns : goal.returns
returns c = record { joined = joined_whole; replay = replayed_in_turn; cut = cut_later; given = given_cut; turn = given_turn }
