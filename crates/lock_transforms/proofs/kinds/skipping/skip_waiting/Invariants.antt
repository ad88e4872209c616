use Rattle.std.proofs.Common.{◌-◌, true}
use Rattle.std.specs.List.{range_with_len}
use Rattle.lock_transforms.specs.Making.{Makes}
use Rattle.lock_transforms.specs.Table.{skipped_waiting}
use Rattle.lock_transforms.proofs.kinds.skipping.skip_waiting.Given as goal

abbrev pub invariant-loop-action : goal.invariant-loop-action
invariant-loop-action l = Makes l.fn.work l.work (skipped_waiting l.fn.work.graph l.fn.work.state (range_with_len l.fn.actions.first (l.action - l.fn.actions.first))) true
