use Rattle.std.proofs.Common.{◌≡◌, drop}
use Rattle.std.specs.Prelude.{max}
use Rattle.picture_layout.specs.Totals.{most_out}
use Rattle.picture_layout.proofs.totals.most_out.Given as goal

abbrev pub invariant-loop-level : goal.invariant-loop-level
invariant-loop-level l = max l.most (most_out (drop l.level-index l.levels)) ≡ most_out l.levels
