use Rattle.std.proofs.Common.{◌≡◌, ◌++◌, ◌≤◌, ◌+◌, map, vec_len, vec_capacity}
use Rattle.std.specs.Vec.Iter.{into_iter_items, into_iter_len}
use Rattle.shared_services.proofs.team.part.Given as goal

abbrev pub invariant-loop-worker : goal.invariant-loop-worker
invariant-loop-worker g l =
    (l.fn.team.items ≡ l.yielded ++ into_iter_items l.worker-iterator)
    × (l.passes.items ≡ map (λ w. w.pass) l.yielded)
    × (l.desks.items ≡ map (λ w. w.desk) l.yielded)
    × (vec_len l.passes + into_iter_len l.worker-iterator ≤ vec_capacity l.passes)
    × (vec_len l.desks + into_iter_len l.worker-iterator ≤ vec_capacity l.desks)
