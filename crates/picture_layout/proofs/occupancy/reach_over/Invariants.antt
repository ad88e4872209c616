use Rattle.std.proofs.Common.{◌≡◌, drop}
use Rattle.picture_layout.specs.Occupancy.{reach_over}
use Rattle.picture_layout.proofs.occupancy.reach_over.Given as goal

abbrev pub invariant-loop-span : goal.invariant-loop-span
invariant-loop-span l = reach_over l.occupancy l.worker l.reach (drop l.span-index l.spans) ≡ reach_over l.occupancy l.worker l.fn.reach l.spans
