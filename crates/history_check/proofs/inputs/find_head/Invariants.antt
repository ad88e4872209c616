use Rattle.std.proofs.Common.{◌≤◌, [], length}
use Rattle.history_check.specs.Checking.{HasTaken, unread}
use Rattle.history_check.specs.declared.inputs.TheConstants.{LEAST_HISTORY, MAX_INPUT_BYTES}
use Rattle.history_check.proofs.inputs.find_head.Given as goal

-- the lines so far are passed over, and no more is ahead than a history has
abbrev pub invariant-loop-is_whole : goal.invariant-loop-is_whole
invariant-loop-is_whole g l = record {
  taken : HasTaken (g.I.Source.seen l.fn.input) (g.I.Source.seen l.input) l.lines [];
  ahead : length l.lines.ahead ≤ LEAST_HISTORY;
  room : unread l.lines ≤ MAX_INPUT_BYTES;
}

abbrev pub decreases-loop-is_whole : goal.decreases-loop-is_whole
decreases-loop-is_whole g l = unread l.lines
