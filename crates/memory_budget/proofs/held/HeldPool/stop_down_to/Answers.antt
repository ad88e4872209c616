use Rattle.std.proofs.Common.{length, ap, arith}
use Rattle.memory_budget.proofs.Stopping.{one_more}
use Rattle.memory_budget.proofs.WithinKept.{then_within}
use Rattle.memory_budget.proofs.held.HeldPool.stop_down_to.Goals as goal

pub loop-self-preserved : goal.loop-self-preserved
loop-self-preserved g c = (
  rw c.push_reserved.ensures.items (one_more g.L.Linked.requirements c.args.self.now c.loop-self.self c.stop_idle.new.self c.args.most_mb c.loop-self.links.items c.in-Some.link c.loop-self.invariant.0 (omega (arith, c.loop-self-test.true, c.held_mb.ensures.value)) c.in-Some.ensures.stopped c.in-Some.ensures.held c.in-Some.ensures.busy),
  omega (arith, c.loop-self.invariant.1, c.push_reserved.ensures.len, c.push_reserved.ensures.capacity, ap length c.in-Some.ensures.stopped.first),
  omega (arith, c.loop-self.invariant.2, c.in-Some.ensures.held),
  then_within c.args.self.now.events c.loop-self.self.events c.stop_idle.new.self.events c.loop-self.invariant.3 c.loop-self.invariant.2 c.stop_idle.ensures.within,
)
