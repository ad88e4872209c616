use Rattle.std.proofs.Common.{◌+◌, ◌-◌, ◌≤◌, take}
use Rattle.file_access.specs.PageView.{Adds}
use Rattle.history_text.specs.Text.{entry_text, numbered}
use Rattle.history_parts.proofs.parts.write_segment.Given as goal

-- the lines so far
abbrev pub invariant-loop-place : goal.invariant-loop-place
invariant-loop-place g l = record {
  behind : l.segment.before ≤ l.place;
  text : Adds (g.K.Sink.seen l.fn.sink) l.fn.page (g.K.Sink.seen l.sink) l.page (numbered entry_text (l.segment.before + 1) (take (l.place - l.segment.before) l.segment.entries));
}
