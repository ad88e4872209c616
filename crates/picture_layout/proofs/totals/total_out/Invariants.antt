use Rattle.std.proofs.Common.{◌≡◌, ◌≤◌, ◌*◌, ◌^◌, take}
use Rattle.picture_layout.specs.Totals.{total_out}
use Rattle.picture_layout.proofs.totals.total_out.Given as goal

abbrev pub invariant-loop-level : goal.invariant-loop-level
invariant-loop-level l = (l.total ≡ total_out (take l.level-index l.levels)) × (l.total ≤ l.level-index * 2 ^ 64)
