use Rattle.std.proofs.Common.{◌≡◌, ◌∙◌, arith, length}
use Rattle.daemon_manager.proofs.EventLogKept.{busy_bound, started_reserved}
use Rattle.daemon_manager.proofs.event_log.EventLog.start.Goals as goal

pub overflow_add-self : goal.overflow_add-self
overflow_add-self c =
    let inside = c.self.inside in
    omega (arith, busy_bound inside.events.items inside.daemons.items inside.busy c.self.invariant, inside.daemons.ok.0, inside.daemons.ok.1, inside.daemons.small)

pub invariant_of-self-2 : goal.invariant_of-self-2
invariant_of-self-2 c =
    let inside = c.self.inside in
    let place : c.len.result ≡ length inside.events.items = c.len.ensures ∙ c.reserve.ensures.len ∙ inside.events.ok.0 in
    rw (c.add_start.ensures.items, c.in_ok-daemon.ensures.added, c.in_ok-daemon.ensures.number, c.reserve.ensures.items)
    (started_reserved inside.events.items inside.daemons.items inside.busy _ c.args.unit c.len.result c.self.invariant place)
