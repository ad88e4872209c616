use Rattle.std.proofs.Common.{◌<◌, arith}
use Rattle.ready_work.specs.Choices.{IsQueued}
use Rattle.ready_work.proofs.Looking.{looks_put, one_below}
use Rattle.ready_work.proofs.ready_works.queued_units.Goals as goal

pub loop-unit-preserved : goal.loop-unit-preserved
loop-unit-preserved c =
    let room = c.put.ensures.room in
    let within : c.loop-unit.unit < c.args.graph.now.units = omega arith in
    let enough = c.loop-unit.invariant.1 in (
      one_below (IsQueued c.args.graph.now c.args.state.now) c.loop-unit.unit c.loop-unit.queued c.put.new.self
          (looks_put (IsQueued c.args.graph.now c.args.state.now) c.loop-unit.unit c.is_queued.result c.loop-unit.queued c.put.new.self c.put.ensures.room c.put.ensures.put c.put.ensures.others
          (λ b. record { within = within; queued = c.is_queued.ensures.0 b }, λ q. c.is_queued.ensures.1 q.queued))
          c.loop-unit.invariant.0,
      omega arith,
    )
