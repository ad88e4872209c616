use Rattle.std.specs.Prelude.{IfOk, is_ok}
use Rattle.async_tracker.specs.NextWork.{ShowsParkedWork}
use Rattle.build_workers.specs.Steps.{Steps}
use Rattle.build_workers.proofs.parked.wait_for_items.Given as goal

-- what the worker has is told from when it was parked
abbrev pub invariant-loop : goal.invariant-loop
invariant-loop g l =
    (goal.iterator-loop g).can_next l.iterator' × (goal.iterator-loop g).is_finite l.iterator' × Steps l.site l.initial.worker l.worker (is_ok l.begun)
    × IfOk l.begun (ShowsParkedWork l.parked.action l.fn.worker.pass.sight l.worker.pass.sight)
