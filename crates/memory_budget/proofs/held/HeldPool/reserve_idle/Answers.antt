use Rattle.std.proofs.Common.{ap, ◌∙◌, arith, subst}
use Rattle.daemon_requirements.specs.RequirementsView.{RequirementsView}
use Rattle.daemon_manager.specs.Calls.{ReservesOrNot}
use Rattle.daemon_manager.specs.declared.events.Event.TheVariants.{Reserved as ReservedFor}
use Rattle.memory_budget.specs.Heaps.{held}
use Rattle.memory_budget.proofs.SumsKept.{reserved_sums}
use Rattle.memory_budget.proofs.WithinKept.{one_within}
use Rattle.memory_budget.proofs.held.HeldPool.reserve_idle.Goals as goal

pub invariant_of-self-2 : goal.invariant_of-self-2
invariant_of-self-2 g c =
    let made_for = g.L.Linked.requirements in
    let inside = c.self.inside in
    let reserves = subst (λ o. ReservesOrNot made_for inside.pool c.reserve_idle.new.self c.args.asked.now c.args.unit o) c.in-Some.is c.in_ok-reserved.ensures.reserved in
    let heap = c.heap_of.ensures.value ∙ ap (λ (q : RequirementsView). q.heap_mb) (c.made_for.ensures ∙ ap made_for c.link.ensures.value) in
    rw heap (reserved_sums made_for inside.pool c.reserve_idle.new.self inside.held_mb inside.busy_mb c.self.invariant c.args.asked.now c.args.unit c.in-Some.reserved c.events.ensures.sound reserves)

pub returns-clause-held : goal.returns-clause-held
returns-clause-held g c =
    let made_for = g.L.Linked.requirements in
    let inside = c.self.inside in
    let reserves = subst (λ o. ReservesOrNot made_for inside.pool c.reserve_idle.new.self c.args.asked.now c.args.unit o) c.in-Some.is c.in_ok-reserved.ensures.reserved in
    let after = reserved_sums made_for inside.pool c.reserve_idle.new.self inside.held_mb inside.busy_mb c.self.invariant c.args.asked.now c.args.unit c.in-Some.reserved c.events.ensures.sound reserves in
    rw (← c.self.view_is) (omega (arith, after.held, c.self.invariant.held))

pub returns-clause-within : goal.returns-clause-within
returns-clause-within g c =
    let made_for = g.L.Linked.requirements in
    let inside = c.self.inside in
    let reserves = subst (λ o. ReservesOrNot made_for inside.pool c.reserve_idle.new.self c.args.asked.now c.args.unit o) c.in-Some.is c.in_ok-reserved.ensures.reserved in
    let after = reserved_sums made_for inside.pool c.reserve_idle.new.self inside.held_mb inside.busy_mb c.self.invariant c.args.asked.now c.args.unit c.in-Some.reserved c.events.ensures.sound reserves in
    rw (← c.self.view_is) (one_within (held inside.pool.events) inside.pool.events c.reserve_idle.new.self.events (ReservedFor c.in-Some.reserved.daemon c.args.unit) reserves.events (omega (arith, after.held, c.self.invariant.held)))
