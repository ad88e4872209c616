use Rattle.std.proofs.Common.{◌-◌, true}
use Rattle.std.specs.List.{range_with_len}
use Rattle.lock_transforms.specs.Making.{Makes}
use Rattle.lock_transforms.specs.Table.{moved_units}
use Rattle.lock_transforms.proofs.kinds.making.move_units.Given as goal

abbrev pub invariant-loop-unit : goal.invariant-loop-unit
invariant-loop-unit l = Makes l.fn.work l.work (moved_units (range_with_len l.fn.units.first (l.unit - l.fn.units.first)) l.from l.to) true
