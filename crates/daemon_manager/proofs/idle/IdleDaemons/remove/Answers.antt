use Rattle.std.proofs.Common.{◌<◌, length, slice_get, sym, ap, ◌∙◌, arith}
use Rattle.daemon_manager.specs.IdleOrder.{daemon_at}
use Rattle.daemon_manager.proofs.Order.{length-mapped}
use Rattle.daemon_manager.proofs.IdleKept.{daemon_there, removed_in_order, removed_view}
use Rattle.daemon_manager.proofs.idle.IdleDaemons.remove.Goals as goal

pub invariant_of-self : goal.invariant_of-self
invariant_of-self g c =
    let inside = c.self.inside in
    let within : c.args.place < length inside.order.items = omega (arith, c.requires, length-mapped (daemon_at inside.numbers) inside.order.items, ap length c.self.view_is) in
    rw (c.remove-key.ensures.items, c.remove-key.ensures.capacity) (removed_in_order inside.numbers c.remove-daemon.new.self inside.order.items _ c.self.invariant c.args.place c.remove-key.result within c.remove-key.ensures.value c.remove-daemon.ensures.updates c.remove-daemon.ensures.len c.remove-daemon.ensures.capacity)

pub returns-clause-daemon : goal.returns-clause-daemon
returns-clause-daemon g c =
    let inside = c.self.inside in
    let within : c.args.place < length inside.order.items = omega (arith, c.requires, length-mapped (daemon_at inside.numbers) inside.order.items, ap length c.self.view_is) in
    ap (λ xs. slice_get xs c.args.place) (sym c.self.view_is)
    ∙ daemon_there inside.numbers inside.order.items c.args.place c.remove-daemon.result c.remove-key.result within c.remove-key.ensures.value c.remove-daemon.ensures.value

pub returns-clause-others : goal.returns-clause-others
returns-clause-others g c =
    let inside = c.self.inside in
    let within : c.args.place < length inside.order.items = omega (arith, c.requires, length-mapped (daemon_at inside.numbers) inside.order.items, ap length c.self.view_is) in
    rw (c.remove-key.ensures.items, ← c.self.view_is) (removed_view inside.numbers c.remove-daemon.new.self inside.order.items _ c.self.invariant c.args.place c.remove-key.result within c.remove-key.ensures.value c.remove-daemon.ensures.updates)
