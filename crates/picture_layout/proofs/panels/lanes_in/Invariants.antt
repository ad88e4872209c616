use Rattle.std.proofs.Common.{◌≡◌, [], drop}
use Rattle.picture_layout.specs.Panels.{lanes_from}
use Rattle.picture_layout.proofs.panels.lanes_in.Given as goal

abbrev pub invariant-loop-span : goal.invariant-loop-span
invariant-loop-span l = lanes_from l.folding l.lanes.keys (drop l.span-index l.shown) ≡ lanes_from l.folding [] l.shown
