use Rattle.std.proofs.Common.{◌≡◌, ◌++◌, drop, map}
use Rattle.history_text.specs.HistoryView.{entry_read}
use Rattle.run_spans.specs.Levels.{levels_of, nothing_out}
use Rattle.run_spans.proofs.levels.levels_of.Given as goal

-- the levels so far, and those of what is left, are those of all
abbrev pub invariant-loop-entry : goal.invariant-loop-entry
invariant-loop-entry l = l.levels.items ++ levels_of l.level (map entry_read (drop l.entry-index l.entries)) ≡ levels_of nothing_out (map entry_read l.entries)
