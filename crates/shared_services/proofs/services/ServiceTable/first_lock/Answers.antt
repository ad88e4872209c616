use Rattle.std.proofs.Common.{◌≤◌, ◌*◌, ◌∙◌, List, ℕ, ap, subst, sum, take, arith}
use Rattle.shared_services.specs.Services.{FitMaxima, lock_count}
use Rattle.shared_services.specs.declared.services.TheConstants.{MAX_SERVICES, MAX_USES}
use Rattle.shared_services.proofs.lemmas.Places.{ends_within, few_locks, part_within}
use Rattle.shared_services.proofs.services.ServiceTable.first_lock.Goals as goal

few : (c : goal.After-deref) → lock_count c.args.self.now ≤ MAX_SERVICES * MAX_USES
few c = few_locks c.args.self.now (subst FitMaxima c.self.view_is c.self.invariant)

pub total-requires : goal.total-requires
total-requires c = let within = part_within c.deref.result.now c.args.service in omega (arith, within, few c, ap sum (c.deref.ensures.value ∙ c.self.view_is))

pub returns-clause-few : goal.returns-clause-few
returns-clause-few c = few_locks c.args.self.now (subst FitMaxima c.self.view_is c.self.invariant)

pub returns-clause-within : goal.returns-clause-within
returns-clause-within c =
    let within = ends_within c.args.self.now c.args.service c.requires in
    omega (arith, within, c.total.ensures ∙ ap (λ (l : List ℕ). sum (take c.args.service l)) (c.deref.ensures.value ∙ c.self.view_is))
