-- full handles of the workers so far
use Rattle.std.proofs.Common.{◌≡◌, ◌≤◌, ◌++◌, length, map, true}
use Rattle.std.specs.List.{All}
use Rattle.std.specs.Prelude.{vec_capacity}
use Rattle.std.specs.Vec.Iter.{into_iter_items}
use Rattle.wakhurmi_c.proofs.planned_opening.fill.Given as goal

abbrev pub invariant-loop-worker : goal.invariant-loop-worker
invariant-loop-worker l =
    (l.fn.workers.items ≡ l.yielded ++ into_iter_items l.worker-iterator) × (map (λ h. h.held.worker.pass) l.filled.items ≡ map (λ w. w.value.pass) l.yielded)
    × All (λ h. h.full ≡ true) l.filled.items × (length l.fn.workers.items ≤ vec_capacity l.filled)
