-- the seats so far, and the workers to come
use Rattle.std.proofs.Common.{◌≡◌, ◌+◌, length, All}
use Rattle.std.specs.Vec.Iter.{into_iter_items}
use Rattle.ordering_and_ticket_tests.proofs.work_tickets_tests.seats_of.Given as goal

abbrev pub invariant-loop-seat : goal.invariant-loop-seat
invariant-loop-seat l = record {
  here : All (λ s. s.queue ≡ l.tickets.queue) l.seats.items;
  rest : All (λ w. w.seat.queue ≡ l.tickets.queue) (into_iter_items l.seat-iterator);
  count : length l.seats.items + length (into_iter_items l.seat-iterator) ≡ length l.fn.workers.items;
}
