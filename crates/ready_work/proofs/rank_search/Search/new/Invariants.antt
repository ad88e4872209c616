use Rattle.std.proofs.Common.{◌≡◌, ℕ, false, length, get_or}
use Rattle.ready_work.proofs.rank_search.Search.new.Given as goal

abbrev pub invariant-loop-row : goal.invariant-loop-row
invariant-loop-row l =
    (length l.ranked.items ≡ length l.next.items) × ((k : ℕ) → get_or l.ranked.items k false ≡ false) × ((k : ℕ) → get_or l.next.items k 0 ≡ 0)
    × (length l.ranked.items ≡ l.row-index)
