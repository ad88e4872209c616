use Rattle.std.proofs.Common.{◌≡◌, take}
use Rattle.lock_transforms.proofs.kinds.admitting.are_same.Given as goal

abbrev pub invariant-loop-place : goal.invariant-loop-place
invariant-loop-place l = take l.place l.made ≡ take l.place l.given
