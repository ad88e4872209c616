use Rattle.work_tickets.proofs.Seating.{begins}
use Rattle.work_tickets.proofs.tickets.Tickets.open.Goals as goal

pub ruled-requires-clause-rule : goal.ruled-requires-clause-rule
ruled-requires-clause-rule c = begins
