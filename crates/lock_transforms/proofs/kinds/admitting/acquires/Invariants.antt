use Rattle.std.proofs.Common.{◌≡◌, drop}
use Rattle.lock_transforms.specs.Table.{acquires}
use Rattle.lock_transforms.proofs.kinds.admitting.acquires.Given as goal

abbrev pub invariant-loop-place : goal.invariant-loop-place
invariant-loop-place l = acquires 0 l.leased l.changes ≡ acquires l.low l.leased (drop l.place l.changes)
