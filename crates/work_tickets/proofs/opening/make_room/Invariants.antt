-- the pass keeps as many seats as were counted
use Rattle.std.proofs.Common.{◌≡◌, ◌<◌}
use Rattle.crossbeam_queue.specs.Passes.{IsPassOf, view}
use Rattle.work_tickets.specs.Sights.{keeper}
use Rattle.work_tickets.proofs.opening.make_room.Given as goal

abbrev pub invariant-loop : goal.invariant-loop
invariant-loop l = IsPassOf l.queue l.pass × (view l.pass ≡ keeper l.counter l.counter) × (0 < l.counter)
