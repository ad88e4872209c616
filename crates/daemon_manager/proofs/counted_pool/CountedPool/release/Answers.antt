use Rattle.std.proofs.Common.{arith}
use Rattle.std.proofs.lemmas.Grind.{common_steps}
use Rattle.daemon_manager.proofs.lemmas.Asked.{asked_released}
use Rattle.daemon_manager.proofs.counted_pool.CountedPool.release.Goals as goal

pub invariant_of-self : goal.invariant_of-self
invariant_of-self g c = (
  grind (arith, common_steps),
  grind (arith, common_steps),
  asked_released g.U.ReservationLedger.asks g.L.Linked.requirements c.self.inside.pool c.release.new.self c.args.reserved c.release.result c.release.ensures c.self.invariant.2,
)
