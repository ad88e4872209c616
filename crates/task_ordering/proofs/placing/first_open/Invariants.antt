use Rattle.std.proofs.Common.{◌≤◌, ◌<◌, ℕ, ◌-◌, length, get_or}
use Rattle.task_ordering.specs.Marks.{IsMarked}
use Rattle.task_ordering.proofs.placing.first_open.Given as goal

abbrev pub invariant-loop-place : goal.invariant-loop-place
invariant-loop-place l = (l.initial.place ≤ l.place) × (l.place ≤ length l.befores) × ((k : ℕ) → l.initial.place ≤ k → k < l.place → IsMarked l.placed (get_or l.befores k 0))

abbrev pub decreases-loop-place : goal.decreases-loop-place
decreases-loop-place l = length l.befores - l.place
