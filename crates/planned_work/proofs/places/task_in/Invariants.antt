use Rattle.std.proofs.Common.{◌≡◌, drop}
use Rattle.planned_work.specs.Places.{task_in}
use Rattle.planned_work.proofs.places.task_in.Given as goal

-- those so far aren't such
abbrev pub invariant-loop-mark : goal.invariant-loop-mark
invariant-loop-mark l = task_in (drop l.mark-index l.marks) ≡ task_in l.marks
