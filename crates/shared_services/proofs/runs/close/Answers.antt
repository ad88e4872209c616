use Rattle.std.proofs.Common.{subst}
use Rattle.std.specs.List.{All}
use Rattle.resource_lock.specs.AtRest.{IsAtRest}
use Rattle.coordination.specs.Holds.{HoldsNothing}
use Rattle.coordination.specs.declared.services.Opened.{Opened}
use Rattle.shared_services.proofs.runs.close.Goals as goal

pub returns-clause-rest : goal.returns-clause-rest
returns-clause-rest c = subst (λ (o : Opened (Unit {0})). All (λ p. HoldsNothing p.sight) o.passes.items → IsAtRest c.finish-book.result.value.state) c.into_inner-service.ensures c.finish-book.ensures.rest
