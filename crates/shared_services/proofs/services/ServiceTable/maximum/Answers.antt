use Rattle.std.proofs.Common.{subst}
use Rattle.shared_services.specs.Services.{FitMaxima}
use Rattle.shared_services.proofs.lemmas.Places.{few_locks}
use Rattle.shared_services.proofs.services.ServiceTable.maximum.Goals as goal

pub returns-clause-few : goal.returns-clause-few
returns-clause-few c = few_locks c.args.self.now (subst FitMaxima c.self.view_is c.self.invariant)
