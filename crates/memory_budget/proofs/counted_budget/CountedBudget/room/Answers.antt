use Rattle.std.proofs.Common.{refl, subst, ◌∙◌, arith}
use Rattle.daemon_manager.specs.Counts.{one_if_failed, one_if_reserved}
use Rattle.memory_budget.specs.Rooms.{MakesRoom}
use Rattle.memory_budget.proofs.Stopping.{stops_uncounted}
use Rattle.memory_budget.proofs.counted_budget.CountedBudget.room.Goals as goal

-- nothing that is counted happens while a permit is given
pub invariant_of-self-in-Start : goal.invariant_of-self-in-Start
invariant_of-self-in-Start g c =
    let made_for = g.L.Linked.requirements in
    let old = c.self.inside.pool in
    let new = c.room.new.self in
    let given = subst (λ r. MakesRoom made_for old new c.args.asked.now c.args.unit r) c.in-Start.is c.in_ok-reserved.ensures.room in
    let same = stops_uncounted made_for old.pool new.pool given.stops.daemons c.in-Start.links.items given.stops.stopped in
    (omega (arith, c.self.invariant.0, same one_if_reserved (λ d. refl)), omega (arith, c.self.invariant.1, same one_if_failed (λ d. refl)), given.budget ∙ c.self.invariant.2)
