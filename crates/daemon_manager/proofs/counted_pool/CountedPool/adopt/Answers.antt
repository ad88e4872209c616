use Rattle.std.proofs.Common.{arith}
use Rattle.std.proofs.lemmas.Grind.{common_steps}
use Rattle.daemon_manager.proofs.lemmas.Asked.{asked_adopted}
use Rattle.daemon_manager.proofs.counted_pool.CountedPool.adopt.Goals as goal

pub invariant_of-self-2 : goal.invariant_of-self-2
invariant_of-self-2 g c = (
  grind (arith, common_steps),
  grind (arith, common_steps),
  asked_adopted g.U.ReservationLedger.asks g.L.Linked.requirements c.self.inside.pool c.adopt.new.self c.args.link c.args.requirements c.args.unit c.in_ok-reserved.reserved c.in_ok-reserved.ensures.adopted c.requires.made c.requires.asks c.self.invariant.2,
)
