use Rattle.std.proofs.Common.{◌-◌, length}
use Rattle.picture_layout.proofs.Carrying.{PartedAt}
use Rattle.picture_layout.proofs.panels.split_begun.Given as goal

abbrev pub invariant-loop-count : goal.invariant-loop-count
invariant-loop-count l = PartedAt l.entry l.spans l.count

abbrev pub decreases-loop-count : goal.decreases-loop-count
decreases-loop-count l = length l.spans - l.count
