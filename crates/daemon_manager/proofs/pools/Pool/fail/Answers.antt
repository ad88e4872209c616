use Rattle.std.proofs.Common.{arith}
use Rattle.daemon_manager.proofs.lemmas.PoolKept.{failed_pool}
use Rattle.daemon_manager.proofs.pools.Pool.fail.Goals as goal

pub invariant_of-self : goal.invariant_of-self
invariant_of-self g c =
    let inside = c.self.inside in
    let busy = c.is_busy_with-is_own.ensures.value.0 c.if-is_own.true in (
      rw c.note.ensures.events (failed_pool g.L.Linked.requirements inside.event_log.events inside.idle c.self.invariant.0 c.args.reserved.daemon _ busy),
      omega (arith, c.self.invariant.1, c.note.ensures.busy, c.note.ensures.room),
      c.self.invariant.2,
    )
