use Rattle.std.proofs.Common.{◌≤◌, ◌+◌, length, drop, map}
use Rattle.history_text.specs.HistoryView.{entry_read}
use Rattle.run_spans.specs.Steps.{steps_from}
use Rattle.run_spans.specs.Tail.{IsTail}
use Rattle.run_spans.proofs.spans.spans_of.Given as goal

-- the steps of the entries from here on were taken
abbrev pub invariant-loop-left : goal.invariant-loop-left
invariant-loop-left l = record {
  within : l.left ≤ length l.entries;
  taken : IsTail l.end (steps_from (l.left + 1) (map entry_read (drop l.left l.entries))) l.tail;
}

abbrev pub decreases-loop-left : goal.decreases-loop-left
decreases-loop-left l = l.left
