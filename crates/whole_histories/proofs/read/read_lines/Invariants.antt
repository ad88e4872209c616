use Rattle.std.proofs.Common.{◌++◌, length}
use Rattle.history_text.specs.HistoryView.{history_view}
use Rattle.history_text.specs.Grammar.{lines_of}
use Rattle.history_text.proofs.lemmas.ReadLaws.{ReadSoFar}
use Rattle.whole_histories.proofs.read.read_lines.Given as goal

abbrev pub invariant-loop-history : goal.invariant-loop-history
invariant-loop-history l = ReadSoFar (lines_of (history_view l.fn.opened) ++ l.text) (history_view l.history) l.rest

abbrev pub decreases-loop-history : goal.decreases-loop-history
decreases-loop-history l = length l.rest
