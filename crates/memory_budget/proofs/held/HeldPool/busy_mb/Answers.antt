use Rattle.std.proofs.Common.{arith}
use Rattle.memory_budget.proofs.held.HeldPool.busy_mb.Goals as goal

pub returns-clause-most : goal.returns-clause-most
returns-clause-most g c = rw (← c.self.view_is) (omega (arith, c.self.invariant.held, c.self.invariant.busy, c.self.invariant.idle))
