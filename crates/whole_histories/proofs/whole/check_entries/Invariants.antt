use Rattle.history_text.specs.HistoryView.{history_view}
use Rattle.history_check.specs.CheckView.{IsCheckOf}
use Rattle.whole_histories.proofs.OneByOne.{first_of}
use Rattle.whole_histories.proofs.whole.check_entries.Given as goal

-- the check is that of the entries so far
abbrev pub invariant-loop-entry : goal.invariant-loop-entry
invariant-loop-entry g l = IsCheckOf l.plan (first_of l.entry-index (history_view l.history)) l.check
