use Rattle.std.proofs.Common.{◌≡◌, ◌++◌, ◌≤◌, ◌+◌, map, vec_len, vec_capacity}
use Rattle.std.specs.Vec.Iter.{into_iter_items, into_iter_len}
use Rattle.shared_services.proofs.team.seat.Given as goal

abbrev pub invariant-loop-pass : goal.invariant-loop-pass
invariant-loop-pass g l =
    (l.fn.passes.items ≡ l.yielded ++ into_iter_items l.pass-iterator)
    × (l.fn.desks.items ≡ map (λ w. w.desk) l.team.items ++ into_iter_items l.rest)
    × (map (λ w. w.pass) l.team.items ≡ l.yielded)
    × (into_iter_len l.rest ≡ into_iter_len l.pass-iterator)
    × (vec_len l.team + into_iter_len l.pass-iterator ≤ vec_capacity l.team)
