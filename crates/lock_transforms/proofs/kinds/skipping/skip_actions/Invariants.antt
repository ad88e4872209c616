use Rattle.std.proofs.Common.{◌-◌, true}
use Rattle.std.specs.List.{range_with_len}
use Rattle.lock_transforms.specs.Making.{Makes}
use Rattle.lock_transforms.specs.Table.{skipped_actions}
use Rattle.lock_transforms.proofs.kinds.skipping.skip_actions.Given as goal

abbrev pub invariant-loop-action : goal.invariant-loop-action
invariant-loop-action l = Makes l.fn.work l.work (skipped_actions l.fn.work.graph (range_with_len l.fn.actions.first (l.action - l.fn.actions.first))) true
