-- so far the worker has only looked
use Rattle.std.proofs.Common.{◌≡◌}
use Rattle.coordination.specs.Turns.{OnlyLooked}
use Rattle.coordination.proofs.services.Coordination.take_turn.Given as goal

abbrev pub invariant-loop : goal.invariant-loop
invariant-loop g l =
    (goal.iterator-loop g).can_next l.iterator' × (goal.iterator-loop g).is_finite l.iterator' × (l.pass.service ≡ l.fn.pass.service) × OnlyLooked l.fn.pass.sight l.pass.sight
