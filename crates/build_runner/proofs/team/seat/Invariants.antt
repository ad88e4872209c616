use Rattle.std.proofs.Common.{◌≡◌, ◌++◌, ◌≤◌, ◌+◌, ◌<◌, length, map, vec_len, vec_capacity}
use Rattle.std.specs.Prelude.{sum_by}
use Rattle.std.specs.Vec.Iter.{into_iter_items, into_iter_len}
use Rattle.build_workers.specs.Desks.{desk_view}
use Rattle.build_runner.proofs.team.seat.Given as goal

abbrev pub invariant-loop-pass : goal.invariant-loop-pass
invariant-loop-pass g l =
    (l.fn.passes.items ≡ l.yielded ++ into_iter_items l.pass-iterator)
    × (map (desk_view g.T.Desk.Files.files g.T.Desk.Files.faults g.T.Desk.Desk.sends g.T.Desk.Desk.sent) l.fn.desks.items ≡ map (λ w. w.desk) l.team.items ++ map (desk_view g.T.Desk.Files.files g.T.Desk.Files.faults g.T.Desk.Desk.sends g.T.Desk.Desk.sent) (into_iter_items l.rest))
    × (map (λ w. w.pass) l.team.items ≡ l.yielded)
    × (into_iter_len l.rest ≡ into_iter_len l.pass-iterator)
    × (map (λ k. k.watcher) l.fn.kits.items ≡ map (λ w. w.watcher) l.team.items ++ map (λ k. k.watcher) (into_iter_items l.rest_of_kits))
    × (into_iter_len l.rest_of_kits ≡ into_iter_len l.pass-iterator)
    × (vec_len l.team + into_iter_len l.pass-iterator ≤ vec_capacity l.team)
    × (l.tallies.parts + length l.yielded ≡ l.initial.tallies.parts)
    × (length l.yielded + into_iter_len l.pass-iterator < l.initial.tallies.parts)
    × (sum_by (λ w. w.tally.reserved) l.team.items + l.tallies.reserved ≡ l.initial.tallies.reserved)
    × (sum_by (λ w. w.tally.failed) l.team.items + l.tallies.failed ≡ l.initial.tallies.failed)
