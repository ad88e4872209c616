use Rattle.std.proofs.Common.{◌≡◌, drop}
use Rattle.std.specs.Prelude.{max}
use Rattle.picture_layout.specs.Totals.{most_queued}
use Rattle.picture_layout.proofs.totals.most_queued.Given as goal

abbrev pub invariant-loop-level : goal.invariant-loop-level
invariant-loop-level l = max l.most (most_queued (drop l.level-index l.levels)) ≡ most_queued l.levels
