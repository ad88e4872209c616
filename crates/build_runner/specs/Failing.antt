-- How many units a worker of a run closed that weren't worked out, by its pass.
use Rattle.std.specs.Prelude.{ℕ}
use Rattle.coordination.specs.Passes.{PassView}
use Rattle.build_workers.specs.Failing.{unreal_by}

-- how many of them a pass's worker closed, as far as it has seen
abbrev pub unreal_seen : PassView → ℕ
unreal_seen p = unreal_by p.sight.worker p.sight.seen.history
