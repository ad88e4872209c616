use Rattle.std.proofs.Common.{arith}
use Rattle.std.proofs.lemmas.Grind.{common_steps}
use Rattle.daemon_manager.proofs.lemmas.Asked.{asked_stopped}
use Rattle.daemon_manager.proofs.counted_pool.CountedPool.stop_idle.Goals as goal

pub invariant_of-self : goal.invariant_of-self
invariant_of-self g c = (
  grind (arith, common_steps),
  grind (arith, common_steps),
  asked_stopped g.U.ReservationLedger.asks c.self.inside.pool c.stop_idle.new.self c.stop_idle.result c.stop_idle.ensures c.self.invariant.2,
)
