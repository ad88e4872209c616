use Rattle.std.proofs.Common.{length, sym, ap, ◌∙◌}
use Rattle.daemon_manager.specs.IdleOrder.{daemon_at}
use Rattle.daemon_manager.proofs.Order.{length-mapped}
use Rattle.daemon_manager.proofs.idle.IdleDaemons.len.Goals as goal

pub returns : goal.returns
returns g c =
    let inside = c.self.inside in
    c.len.ensures ∙ inside.order.ok.0 ∙ sym (length-mapped (daemon_at inside.numbers) inside.order.items) ∙ ap length c.self.view_is
