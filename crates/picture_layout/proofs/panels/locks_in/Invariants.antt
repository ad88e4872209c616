use Rattle.std.proofs.Common.{◌≡◌, [], drop}
use Rattle.picture_layout.specs.Panels.{locks_from}
use Rattle.picture_layout.proofs.panels.locks_in.Given as goal

abbrev pub invariant-loop-span : goal.invariant-loop-span
invariant-loop-span l = locks_from l.folding l.locks.keys (drop l.span-index l.shown) ≡ locks_from l.folding [] l.shown
