use Rattle.std.proofs.Common.{◌≡◌}
use Rattle.memory_budget.proofs.locks.BudgetLock.wait_for_room.Given as goal

-- nothing is counted while there is no room
abbrev pub invariant-loop : goal.invariant-loop
invariant-loop g l = l.mine ≡ l.initial.mine
