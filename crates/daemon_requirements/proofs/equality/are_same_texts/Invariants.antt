use Rattle.std.proofs.Common.{◌≡◌, take}
use Rattle.daemon_requirements.proofs.equality.are_same_texts.Given as goal

abbrev pub invariant-loop-place : goal.invariant-loop-place
invariant-loop-place l = take l.place l.a ≡ take l.place l.b
