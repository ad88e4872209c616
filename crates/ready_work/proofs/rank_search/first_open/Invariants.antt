use Rattle.std.proofs.Common.{◌≡◌, ◌≤◌, ◌<◌, ℕ, ◌-◌, true, false, length, get_or}
use Rattle.ready_work.proofs.rank_search.first_open.Given as goal

abbrev pub invariant-loop-place : goal.invariant-loop-place
invariant-loop-place l = (l.initial.place ≤ l.place) × (l.place ≤ length l.names) × ((k : ℕ) → l.initial.place ≤ k → k < l.place → get_or l.ranked (get_or l.names k 0) false ≡ true)

abbrev pub decreases-loop-place : goal.decreases-loop-place
decreases-loop-place l = length l.names - l.place
