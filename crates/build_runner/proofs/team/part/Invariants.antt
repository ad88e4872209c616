use Rattle.std.proofs.Common.{◌≡◌, ◌++◌, ◌≤◌, ◌+◌, length, map, vec_len, vec_capacity}
use Rattle.std.specs.Prelude.{sum_by}
use Rattle.std.specs.Vec.Iter.{into_iter_items, into_iter_len}
use Rattle.build_workers.specs.Desks.{desk_view}
use Rattle.build_runner.proofs.team.part.Given as goal

abbrev pub invariant-loop-worker : goal.invariant-loop-worker
invariant-loop-worker g l =
    (l.fn.team.items ≡ l.yielded ++ into_iter_items l.worker-iterator)
    × (l.passes.items ≡ map (λ w. w.pass) l.yielded)
    × (map (desk_view g.T.Desk.Files.files g.T.Desk.Files.faults g.T.Desk.Desk.sends g.T.Desk.Desk.sent) l.desks.items ≡ map (λ w. w.desk) l.yielded)
    × (vec_len l.passes + into_iter_len l.worker-iterator ≤ vec_capacity l.passes)
    × (vec_len l.desks + into_iter_len l.worker-iterator ≤ vec_capacity l.desks)
    × (map (λ k. k.watcher) l.kits.items ≡ map (λ w. w.watcher) l.yielded)
    × (vec_len l.kits + into_iter_len l.worker-iterator ≤ vec_capacity l.kits)
    × (vec_capacity l.desks ≡ vec_capacity l.initial.desks)
    × (l.tallies.parts ≡ l.initial.tallies.parts + length l.yielded)
    × (l.tallies.reserved ≡ l.initial.tallies.reserved + sum_by (λ w. w.tally.reserved) l.yielded)
    × (l.tallies.failed ≡ l.initial.tallies.failed + sum_by (λ w. w.tally.failed) l.yielded)
