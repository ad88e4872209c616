use Rattle.std.proofs.Common.{◌≡◌, ◌≤◌, ◌+◌, true, length, take}
use Rattle.history_text.specs.Lines.{is_unbroken}
use Rattle.history_check.proofs.Supplies.{IsReading, FitsBound}
use Rattle.history_check.specs.declared.lines.TheConstants.{MAX_PIECE}
use Rattle.history_check.proofs.lines.Lines.take_line.Given as goal

-- the line is what was ahead and a piece behind it, and as far as it was looked at no line ends in it
abbrev pub invariant-loop-self : goal.invariant-loop-self
invariant-loop-self g l = record {
  reading : IsReading (g.I.Source.seen l.fn.input) (g.I.Source.seen l.input) l.fn.self l.self;
  looked : l.looked ≤ length l.self.line;
  unbroken : is_unbroken (take l.looked l.self.line) ≡ true;
  piece : length l.self.line ≤ l.looked + MAX_PIECE;
  bound : FitsBound l.expected l.least l.looked l.self.line;
}

abbrev pub decreases-loop-self : goal.decreases-loop-self
decreases-loop-self g l = l.self.room
