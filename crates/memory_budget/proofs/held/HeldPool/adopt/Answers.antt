use Rattle.std.proofs.Common.{arith}
use Rattle.memory_budget.proofs.SumsKept.{adopted_sums}
use Rattle.memory_budget.proofs.WithinKept.{adopted_within}
use Rattle.memory_budget.proofs.held.HeldPool.adopt.Goals as goal

pub invariant_of-self-2 : goal.invariant_of-self-2
invariant_of-self-2 g c =
    rw c.heap_of-heap_mb.ensures.value (adopted_sums g.L.Linked.requirements c.self.inside.pool c.adopt.new.self c.self.inside.held_mb c.self.inside.busy_mb c.self.invariant c.args.requirements c.args.unit c.args.link c.in_ok-reserved.reserved c.in_ok-reserved.ensures.adopted)

pub returns-clause-held : goal.returns-clause-held
returns-clause-held g c =
    let after = adopted_sums g.L.Linked.requirements c.self.inside.pool c.adopt.new.self c.self.inside.held_mb c.self.inside.busy_mb c.self.invariant c.args.requirements c.args.unit c.args.link c.in_ok-reserved.reserved c.in_ok-reserved.ensures.adopted in
    rw (← c.self.view_is) (omega (arith, after.held, c.self.invariant.held))

pub returns-clause-within : goal.returns-clause-within
returns-clause-within g c =
    rw (← c.self.view_is) (adopted_within g.L.Linked.requirements c.self.inside.pool c.adopt.new.self c.args.requirements c.args.unit c.args.link c.in_ok-reserved.reserved c.in_ok-reserved.ensures.adopted)
