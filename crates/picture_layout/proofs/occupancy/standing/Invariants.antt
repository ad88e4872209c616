use Rattle.std.proofs.Common.{◌≡◌, map}
use Rattle.std.specs.List.{range_with_len}
use Rattle.picture_layout.specs.Occupancy.{stands_after}
use Rattle.picture_layout.proofs.Swept.{Swept}
use Rattle.picture_layout.proofs.occupancy.standing.Given as goal

abbrev pub invariant-loop-before : goal.invariant-loop-before
invariant-loop-before l =
    (l.held.items ≡ map (stands_after l.occupancy l.worker l.spans) (range_with_len 1 l.before))
    × Swept l.occupancy l.worker l.spans l.before l.reach l.rest
