use Rattle.std.proofs.Common.{◌≡◌, ℕ, [], length}
use Rattle.ready_work.specs.Rank.{lists_of, after}
use Rattle.ready_work.proofs.dependent_lists.empty_rows.Given as goal

abbrev pub invariant-loop-row : goal.invariant-loop-row
invariant-loop-row l = (length l.dependents.items ≡ l.row-index) × ((u : ℕ) → after (lists_of l.dependents.items) u ≡ [])
