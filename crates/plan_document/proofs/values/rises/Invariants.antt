use Rattle.std.proofs.Common.{◌≤◌, ◌-◌, length}
use Rattle.plan_document.proofs.Rising.{RisesBelow}
use Rattle.plan_document.proofs.values.rises.Given as goal

abbrev pub invariant-loop-place : goal.invariant-loop-place
invariant-loop-place l = (1 ≤ l.place) × RisesBelow l.entries l.place

abbrev pub decreases-loop-place : goal.decreases-loop-place
decreases-loop-place l = length l.entries - l.place
