use Rattle.std.proofs.Common.{◌<◌, length, ap, ◌∙◌, arith}
use Rattle.daemon_requirements.specs.RequirementsView.{RequirementsView}
use Rattle.memory_budget.proofs.SumsKept.{failed_held, failed_sums, own_counted, own_failed}
use Rattle.memory_budget.proofs.WithinKept.{failed_within}
use Rattle.memory_budget.proofs.held.HeldPool.fail.Goals as goal

pub overflow_sub-self : goal.overflow_sub-self
overflow_sub-self g c =
    let made_for = g.L.Linked.requirements in
    let inside = c.self.inside in
    let more : length inside.pool.events < length c.fail-link.new.self.events = omega (arith, c.if-events.true, ap length c.events-events.ensures.value, ap length c.events.ensures.value) in
    let fails = own_failed made_for inside.pool c.fail-link.new.self inside.held_mb inside.busy_mb c.self.invariant c.args.reserved c.fail-link.result c.fail-link.ensures more in
    let heap = c.heap_of-heap_mb.ensures.value ∙ ap (λ (q : RequirementsView). q.heap_mb) (c.made_for.ensures ∙ ap made_for c.fail-link.ensures.0) in
    omega (arith, heap, (own_counted made_for inside.pool c.fail-link.new.self inside.held_mb inside.busy_mb c.self.invariant c.args.reserved fails.own).0)

pub overflow_sub-self-then-events : goal.overflow_sub-self-then-events
overflow_sub-self-then-events g c =
    let made_for = g.L.Linked.requirements in
    let inside = c.self.inside in
    let more : length inside.pool.events < length c.fail-link.new.self.events = omega (arith, c.if-events.true, ap length c.events-events.ensures.value, ap length c.events.ensures.value) in
    let fails = own_failed made_for inside.pool c.fail-link.new.self inside.held_mb inside.busy_mb c.self.invariant c.args.reserved c.fail-link.result c.fail-link.ensures more in
    let heap = c.heap_of-heap_mb.ensures.value ∙ ap (λ (q : RequirementsView). q.heap_mb) (c.made_for.ensures ∙ ap made_for c.fail-link.ensures.0) in
    omega (arith, heap, (own_counted made_for inside.pool c.fail-link.new.self inside.held_mb inside.busy_mb c.self.invariant c.args.reserved fails.own).1)

pub invariant_of-self : goal.invariant_of-self
invariant_of-self g c =
    let made_for = g.L.Linked.requirements in
    let inside = c.self.inside in
    let more : length inside.pool.events < length c.fail-link.new.self.events = omega (arith, c.if-events.true, ap length c.events-events.ensures.value, ap length c.events.ensures.value) in
    let fails = own_failed made_for inside.pool c.fail-link.new.self inside.held_mb inside.busy_mb c.self.invariant c.args.reserved c.fail-link.result c.fail-link.ensures more in
    let heap = c.heap_of-heap_mb.ensures.value ∙ ap (λ (q : RequirementsView). q.heap_mb) (c.made_for.ensures ∙ ap made_for c.fail-link.ensures.0) in
    let counted = own_counted made_for inside.pool c.fail-link.new.self inside.held_mb inside.busy_mb c.self.invariant c.args.reserved fails.own in
    failed_sums made_for inside.pool c.fail-link.new.self inside.held_mb inside.busy_mb c.self.invariant c.args.reserved _ _ fails (omega (arith, heap, counted.0)) (omega (arith, heap, counted.1))

pub returns-then-events-clause-held : goal.returns-then-events-clause-held
returns-then-events-clause-held g c =
    let inside = c.self.inside in
    rw (← c.self.view_is) (failed_held g.L.Linked.requirements inside.pool c.fail-link.new.self inside.held_mb inside.busy_mb c.self.invariant c.args.reserved c.fail-link.result c.fail-link.ensures)

pub returns-then-events-clause-within : goal.returns-then-events-clause-within
returns-then-events-clause-within g c =
    let inside = c.self.inside in
    rw (← c.self.view_is) (failed_within g.L.Linked.requirements inside.pool c.fail-link.new.self inside.held_mb inside.busy_mb c.self.invariant c.args.reserved c.fail-link.result c.fail-link.ensures)
