use Rattle.std.proofs.Common.{◌≡◌, drop}
use Rattle.planned_work.specs.Places.{action_in}
use Rattle.planned_work.proofs.places.action_in.Given as goal

-- those so far aren't such
abbrev pub invariant-loop-mark : goal.invariant-loop-mark
invariant-loop-mark l = action_in (drop l.mark-index l.marks) ≡ action_in l.marks
