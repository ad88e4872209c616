-- The line of tickets.
use Rattle.std.specs.Prelude.{ℕ, List, ◌++◌}
use mathlib.Core.List.{IsPrefix}
use Rattle.work_tickets.specs.declared.rule.Line.{Line}

abbrev pub line_of : List ℕ → List ℕ → Line
line_of popped queued = record { popped = popped; queued = queued }

-- all units that were pushed, in the order of their pushes
abbrev pub pushed : Line → List ℕ
pushed line = line.popped ++ line.queued

-- The line went on: what was popped stays popped, in its order, and what was pushed stays pushed, in its order.
pub record GoesOn (old new : Line) : Type 0 where
  pub popped : IsPrefix old.popped new.popped
  pub pushed : IsPrefix (pushed old) (pushed new)
