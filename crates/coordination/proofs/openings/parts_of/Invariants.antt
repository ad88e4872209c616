-- the parts of the workers so far
use Rattle.std.proofs.Common.{◌≡◌, length}
use Rattle.worker_notes.specs.Parts.{ArePartsFrom}
use Rattle.coordination.proofs.openings.parts_of.Given as goal

abbrev pub invariant-loop-worker : goal.invariant-loop-worker
invariant-loop-worker l = (length l.parts.items ≡ l.worker) × ArePartsFrom 0 l.book l.parts.items
