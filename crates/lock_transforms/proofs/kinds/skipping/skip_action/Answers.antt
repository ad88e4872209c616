use Rattle.std.proofs.Common.{ap, arith}
use Rattle.resource_lock.specs.GraphView.{GraphView, action_of}
use Rattle.resource_lock.specs.Ranges.{units_in}
use Rattle.lock_transforms.proofs.Skipped.{length-skipped_action}
use Rattle.lock_transforms.proofs.kinds.skipping.skip_action.Goals as goal

pub move_units-requires-clause-room : goal.move_units-requires-clause-room
move_units-requires-clause-room c = omega (arith, length-skipped_action c.args.work.now.graph c.args.action, ap (λ (g : GraphView). units_in (action_of g c.args.action)) c.graph.ensures.value)
