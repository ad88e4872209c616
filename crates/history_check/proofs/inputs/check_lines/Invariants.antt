use Rattle.plan_reader.specs.PlanView.{PlanView}
use Rattle.file_access.specs.SourceView.{SourceView}
use Rattle.history_check.specs.Checking.{HasBytesLeft, IsUnderway, unread}
use Rattle.history_check.proofs.inputs.check_lines.Given as goal

-- whatever was under way still is, and there is room
abbrev pub invariant-loop-next : goal.invariant-loop-next
invariant-loop-next g l = record {
  room : HasBytesLeft l.check.count l.lines;
  underway : (p : PlanView) (start : SourceView) → IsUnderway p start (g.I.Source.seen l.fn.input) l.fn.lines l.fn.check → IsUnderway p start (g.I.Source.seen l.input) l.lines l.check;
}

abbrev pub decreases-loop-next : goal.decreases-loop-next
decreases-loop-next g l = unread l.lines
