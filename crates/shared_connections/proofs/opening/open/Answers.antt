use Rattle.std.proofs.Common.{subst, sym}
use Rattle.resource_lock.specs.AtRest.{IsAtRest}
use Rattle.shared_connections.proofs.opening.open.Goals as goal

pub open-requires-clause-rest : goal.open-requires-clause-rest
open-requires-clause-rest g = subst IsAtRest (sym g.in_ok-book.ensures.state) (g.openings_are_at_rest.ensures _)
