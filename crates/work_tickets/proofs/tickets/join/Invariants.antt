-- the pass has the sights of the seats so far
use Rattle.std.proofs.Common.{◌≡◌, ◌++◌, ◌∷◌, map}
use Rattle.std.specs.Vec.Iter.{into_iter_items}
use Rattle.crossbeam_queue.specs.Passes.{IsPassOf, view}
use Rattle.work_tickets.specs.Sights.{all_of}
use Rattle.work_tickets.proofs.tickets.join.Given as goal

abbrev pub invariant-loop-seat : goal.invariant-loop-seat
invariant-loop-seat l = record {
  rest : into_iter_items l.fn.rest ≡ l.yielded ++ into_iter_items l.seat-iterator;
  own : IsPassOf l.queue l.pass;
  view : view l.pass ≡ all_of (l.fn.first.sight ∷ map (λ s. s.sight) l.yielded);
}
