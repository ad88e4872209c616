use Rattle.std.proofs.Common.{◌≡◌, ◌≤◌, take, map}
use Rattle.std.specs.List.{count_by}
use Rattle.history_text.specs.HistoryView.{entry_read}
use Rattle.picture_layout.specs.Totals.{skips}
use Rattle.picture_layout.proofs.totals.count_skips.Given as goal

abbrev pub invariant-loop-entry : goal.invariant-loop-entry
invariant-loop-entry l = (l.count ≡ count_by skips (take l.entry-index (map entry_read l.entries))) × (l.count ≤ l.entry-index)
