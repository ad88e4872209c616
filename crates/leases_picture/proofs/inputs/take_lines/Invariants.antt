use Rattle.std.proofs.Common.{◌++◌, length}
use Rattle.history_text.specs.HistoryView.{history_view}
use Rattle.history_text.specs.Grammar.{lines_of}
use Rattle.history_text.proofs.lemmas.ReadLaws.{ReadSoFar}
use Rattle.leases_picture.proofs.inputs.take_lines.Given as goal

abbrev pub invariant-loop-rest : goal.invariant-loop-rest
invariant-loop-rest l = ReadSoFar (lines_of (history_view l.fn.history) ++ l.lines) (history_view l.history) l.rest

abbrev pub decreases-loop-rest : goal.decreases-loop-rest
decreases-loop-rest l = length l.rest
