-- it is one of the passes
use Rattle.std.proofs.Common.{◌<◌, length}
use Rattle.build_runner.proofs.watching.last_of.Given as goal

abbrev pub invariant-loop-place : goal.invariant-loop-place
invariant-loop-place l = l.last < length l.passes
