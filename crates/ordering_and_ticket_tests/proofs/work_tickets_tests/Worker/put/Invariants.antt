use Rattle.std.proofs.Common.{◌≡◌}
use Rattle.ordering_and_ticket_tests.proofs.work_tickets_tests.Worker.put.Given as goal

abbrev pub invariant-loop : goal.invariant-loop
invariant-loop g l = (goal.iterator-loop g).can_next l.iterator' × (goal.iterator-loop g).is_finite l.iterator' × (l.self.seat.queue ≡ l.tickets.queue)
