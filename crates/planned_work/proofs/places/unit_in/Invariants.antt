use Rattle.std.proofs.Common.{◌≡◌, drop}
use Rattle.planned_work.specs.Places.{unit_in}
use Rattle.planned_work.proofs.places.unit_in.Given as goal

-- those so far aren't such
abbrev pub invariant-loop-mark : goal.invariant-loop-mark
invariant-loop-mark l = unit_in (drop l.mark-index l.marks) ≡ unit_in l.marks
