use Rattle.std.proofs.Common.{ap, arith, refl}
use Rattle.daemon_manager.specs.PoolView.{PoolView}
use Rattle.daemon_manager.proofs.lemmas.PoolKept.{adopted_pool, adopted_own}
use Rattle.daemon_manager.proofs.pools.Pool.adopt.Goals as goal

pub invariant_of-self-2 : goal.invariant_of-self-2
invariant_of-self-2 g c =
    let inside = c.self.inside in
    let starts = c.in-Ok.ensures.started in (
      rw starts.events (adopted_pool g.L.Linked.requirements inside.event_log.events inside.idle c.self.invariant.0 c.in-Ok.daemon c.args.unit c.args.requirements starts.next),
      omega (arith, starts.busy, starts.room, c.needed-more.ensures.value, c.len.ensures),
      c.self.invariant.2,
    )

pub returns-clause-adopted : goal.returns-clause-adopted
returns-clause-adopted g c =
    let inside = c.self.inside in
    let starts = c.in-Ok.ensures.started in
    record {
      next = rw (← c.self.view_is) starts.next;
      link = refl;
      for_unit = refl;
      idle = ap (λ (v : PoolView g.row.L.Denot). v.idle) c.self.view_is;
      events = rw (← c.self.view_is) starts.events;
      own = rw (starts.events, c.requires) (adopted_own g.L.Linked.requirements inside.event_log.events inside.idle c.self.invariant.0 c.in-Ok.daemon c.args.unit c.args.requirements starts.next);
    }
