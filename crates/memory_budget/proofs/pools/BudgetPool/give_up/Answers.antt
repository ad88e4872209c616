use Rattle.std.proofs.Common.{arith}
use Rattle.memory_budget.proofs.pools.BudgetPool.give_up.Goals as goal

pub invariant_of-self : goal.invariant_of-self
invariant_of-self g c = (omega (arith, c.self.invariant.0, c.take_back.ensures.less), c.self.invariant.1, c.self.invariant.2)
