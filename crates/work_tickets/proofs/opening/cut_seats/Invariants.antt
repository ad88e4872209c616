-- the seats so far, and a pass that keeps the others
use Rattle.std.proofs.Common.{◌≡◌, ◌≤◌, ◌-◌, length, All}
use Rattle.std.specs.Prelude.{vec_capacity}
use Rattle.crossbeam_queue.specs.Passes.{IsPassOf, view}
use Rattle.work_tickets.specs.Sights.{fresh, keeper}
use Rattle.work_tickets.proofs.opening.cut_seats.Given as goal

abbrev pub invariant-loop : goal.invariant-loop
invariant-loop l = record {
  own : IsPassOf l.queue l.pass;
  view : view l.pass ≡ keeper l.seats (l.seats - l.counter);
  count : length l.room.items ≡ l.counter;
  queues : All (λ s. s.queue ≡ record { table = l.queue.table.shared.table_id; seats = l.seats }) l.room.items;
  fresh : All (λ s. s.sight ≡ fresh l.seats) l.room.items;
  room : l.seats ≤ vec_capacity l.room;
}
