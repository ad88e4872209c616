use Rattle.std.proofs.Common.{◌-◌, length}
use Rattle.leases_picture.proofs.Taken.{TakenSoFar}
use Rattle.leases_picture.specs.declared.reading.TheConstants.{MAX_INPUT_BYTES}
use Rattle.leases_picture.proofs.reading.read_all.Given as goal

abbrev pub invariant-loop-text : goal.invariant-loop-text
invariant-loop-text g l = TakenSoFar (g.I.Source.seen l.fn.input) (g.I.Source.seen l.input) l.text.items

abbrev pub decreases-loop-text : goal.decreases-loop-text
decreases-loop-text g l = MAX_INPUT_BYTES - length l.text.items
