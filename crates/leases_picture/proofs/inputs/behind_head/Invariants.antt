use Rattle.std.proofs.Common.{length}
use Rattle.leases_picture.proofs.Finding.{Passes}
use Rattle.leases_picture.proofs.inputs.behind_head.Given as goal

abbrev pub invariant-loop-version : goal.invariant-loop-version
invariant-loop-version l = Passes l.text l.rest

abbrev pub decreases-loop-version : goal.decreases-loop-version
decreases-loop-version l = length l.rest
