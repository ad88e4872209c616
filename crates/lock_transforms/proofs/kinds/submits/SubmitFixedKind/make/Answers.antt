use Rattle.std.proofs.Common.{ap, arith}
use Rattle.resource_lock.specs.GraphView.{GraphView, action_of}
use Rattle.lock_transforms.proofs.kinds.submits.SubmitFixedKind.make.Goals as goal

pub move_units-requires-clause-room : goal.move_units-requires-clause-room
move_units-requires-clause-room c = omega (arith, c.requires.room, ap (λ (g : GraphView). (action_of g c.args.self.now.action).items) c.graph.ensures.value)
