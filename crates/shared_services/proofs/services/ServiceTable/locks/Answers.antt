use Rattle.std.proofs.Common.{◌∙◌, ap, subst, sum, arith}
use Rattle.shared_services.specs.Services.{FitMaxima}
use Rattle.shared_services.proofs.lemmas.Places.{few_locks}
use Rattle.shared_services.proofs.services.ServiceTable.locks.Goals as goal

pub total-requires : goal.total-requires
total-requires c = let few = few_locks c.args.self.now (subst FitMaxima c.self.view_is c.self.invariant) in omega (arith, few, ap sum (c.deref.ensures.value ∙ c.self.view_is))
