use Rattle.std.proofs.Common.{◌≡◌}
use Rattle.ordering_and_ticket_tests.proofs.work_tickets_tests.Worker.work.Given as goal

abbrev pub invariant-loop-number : goal.invariant-loop-number
invariant-loop-number g l = l.self.seat.queue ≡ l.tickets.queue
