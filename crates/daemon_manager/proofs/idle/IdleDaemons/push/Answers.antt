use Rattle.daemon_manager.proofs.IdleKept.{pushed_view}
use Rattle.daemon_manager.proofs.idle.IdleDaemons.push.Goals as goal

pub returns : goal.returns
returns g c =
    let inside = c.self.inside in
    let put = c.insert_reserved-key.ensures in
    rw (c.push_reserved.ensures.items, ← c.self.view_is) (pushed_view inside.numbers c.insert_reserved-key.new.self inside.order.items _ c.self.invariant c.insert_reserved-key.result c.args.daemon.daemon c.args.daemon.link put.was_vacant put.updates)
