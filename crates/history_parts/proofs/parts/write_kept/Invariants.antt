use Rattle.std.proofs.Common.{◌+◌, ◌-◌, ◌≤◌, drop, take}
use Rattle.file_access.specs.PageView.{Adds}
use Rattle.history_text.specs.Text.{entry_text, numbered}
use Rattle.history_parts.proofs.parts.write_kept.Given as goal

-- the lines so far
abbrev pub invariant-loop-place : goal.invariant-loop-place
invariant-loop-place g l = record {
  behind : l.book.given ≤ l.place;
  text : Adds (g.K.Sink.seen l.fn.sink) l.fn.page (g.K.Sink.seen l.sink) l.page (numbered entry_text (l.book.given + 1) (take (l.place - l.book.given) (drop l.book.given l.book.history)));
}
