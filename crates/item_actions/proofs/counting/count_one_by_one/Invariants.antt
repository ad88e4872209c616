use Rattle.std.proofs.Common.{◌≡◌, ◌==◌, count_by, take}
use Rattle.item_actions.proofs.counting.count_one_by_one.Given as goal

-- what was counted so far
abbrev pub invariant-loop-found : goal.invariant-loop-found
invariant-loop-found l = l.total ≡ count_by (λ b. b == l.byte) (take l.found-index l.bytes)
