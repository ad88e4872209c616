use Rattle.std.proofs.Common.{arith}
use Rattle.std.proofs.lemmas.Grind.{common_steps}
use Rattle.daemon_manager.proofs.lemmas.Asked.{asked_reserved}
use Rattle.daemon_manager.proofs.counted_pool.CountedPool.reserve_idle.Goals as goal

pub invariant_of-self-2 : goal.invariant_of-self-2
invariant_of-self-2 g c = (
  grind (arith, common_steps),
  grind (arith, common_steps),
  asked_reserved g.U.ReservationLedger.asks g.L.Linked.requirements c.self.inside.pool c.reserve_idle.new.self c.args.asked.now c.args.unit c.in_ok-reserved.field-0 c.in_ok-reserved.ensures.reserved c.requires c.self.invariant.2,
)
