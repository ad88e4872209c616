use Rattle.std.proofs.Common.{ap, ◌∙◌, arith}
use Rattle.daemon_requirements.specs.RequirementsView.{RequirementsView}
use Rattle.daemon_manager.specs.declared.events.Event.TheVariants.{Stopped}
use Rattle.memory_budget.specs.Heaps.{held}
use Rattle.memory_budget.proofs.SumsKept.{idle_busy, idle_counted, idle_held, idle_sums}
use Rattle.memory_budget.proofs.WithinKept.{one_within}
use Rattle.memory_budget.proofs.held.HeldPool.stop_idle.Goals as goal

pub invariant_of-self-2 : goal.invariant_of-self-2
invariant_of-self-2 g c =
    let made_for = g.L.Linked.requirements in
    let inside = c.self.inside in
    let heap = c.heap_of.ensures.value ∙ ap (λ (q : RequirementsView). q.heap_mb) c.made_for.ensures in
    idle_sums made_for inside.pool c.stop_idle.new.self inside.held_mb inside.busy_mb c.self.invariant c.in_ok-link.link c.events.ensures.sound c.in_ok-link.ensures _
    (omega (arith, heap, idle_counted made_for inside.pool c.stop_idle.new.self inside.held_mb inside.busy_mb c.self.invariant c.in_ok-link.link c.events.ensures.sound c.in_ok-link.ensures))

pub returns-clause-held : goal.returns-clause-held
returns-clause-held g c =
    let inside = c.self.inside in
    rw (← c.self.view_is) (idle_held g.L.Linked.requirements inside.pool c.stop_idle.new.self inside.held_mb inside.busy_mb c.self.invariant c.in_ok-link.link c.events.ensures.sound c.in_ok-link.ensures)

pub returns-clause-busy : goal.returns-clause-busy
returns-clause-busy g c =
    let inside = c.self.inside in
    rw (← c.self.view_is) (idle_busy g.L.Linked.requirements inside.pool c.stop_idle.new.self inside.held_mb inside.busy_mb c.self.invariant c.in_ok-link.link c.events.ensures.sound c.in_ok-link.ensures)

pub returns-clause-most : goal.returns-clause-most
returns-clause-most g c =
    let inside = c.self.inside in
    rw (← c.self.view_is) (omega (arith, idle_held g.L.Linked.requirements inside.pool c.stop_idle.new.self inside.held_mb inside.busy_mb c.self.invariant c.in_ok-link.link c.events.ensures.sound c.in_ok-link.ensures))

pub returns-clause-within : goal.returns-clause-within
returns-clause-within g c =
    let inside = c.self.inside in
    let stops = c.in_ok-link.ensures in
    rw (← c.self.view_is) (one_within (held inside.pool.events) inside.pool.events c.stop_idle.new.self.events (Stopped stops.daemon) stops.events (omega (arith, idle_held g.L.Linked.requirements inside.pool c.stop_idle.new.self inside.held_mb inside.busy_mb c.self.invariant c.in_ok-link.link c.events.ensures.sound stops)))
