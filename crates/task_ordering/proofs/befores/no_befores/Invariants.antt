use Rattle.std.proofs.Common.{◌≡◌, ◌≤◌, ◌-◌, ℕ, [], length}
use Rattle.ready_work.specs.Rank.{lists_of, after}
use Rattle.task_ordering.proofs.befores.no_befores.Given as goal

abbrev pub invariant-loop-alloc : goal.invariant-loop-alloc
invariant-loop-alloc l = (length l.befores.items ≤ l.count) × ((t : ℕ) → after (lists_of l.befores.items) t ≡ [])

abbrev pub decreases-loop-alloc : goal.decreases-loop-alloc
decreases-loop-alloc l = l.count - length l.befores.items
