use Rattle.std.proofs.Common.{take}
use Rattle.daemon_requirements.specs.RequirementsView.{HasDistinctNames}
use Rattle.daemon_requirements.proofs.names.first_twice.Given as goal

abbrev pub invariant-loop-place : goal.invariant-loop-place
invariant-loop-place l = HasDistinctNames (take l.place l.pairs)
