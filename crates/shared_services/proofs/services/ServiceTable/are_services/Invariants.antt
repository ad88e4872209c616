use Rattle.std.proofs.Common.{ℕ, ◌<◌, get_or, length}
use Rattle.shared_services.proofs.services.ServiceTable.are_services.Given as goal

-- the numbers so far are those of services, and rise
abbrev pub invariant-loop-place : goal.invariant-loop-place
invariant-loop-place l =
    ((i : ℕ) → i < l.place → get_or l.asked i 0 < length l.self)
    × ((i j : ℕ) → i < j → j < l.place → get_or l.asked i 0 < get_or l.asked j 0)
