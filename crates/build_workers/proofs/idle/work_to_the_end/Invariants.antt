use Rattle.std.specs.Prelude.{IfOk, is_ok}
use Rattle.build_workers.specs.Choices.{HasBegun}
use Rattle.build_workers.specs.Steps.{Steps}
use Rattle.build_workers.proofs.idle.work_to_the_end.Given as goal

abbrev pub invariant-loop : goal.invariant-loop
invariant-loop g l =
    (goal.iterator-loop g).can_next l.iterator' × (goal.iterator-loop g).is_finite l.iterator' × Steps l.site l.initial.worker l.worker (is_ok l.begun)
    × IfOk l.begun (HasBegun l.worker.pass.sight)
