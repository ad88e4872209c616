use Rattle.std.proofs.Common.{◌<◌, refl, ◌∙◌, arith}
use Rattle.ready_work.specs.Choices.{IsFree}
use Rattle.ready_work.proofs.Looking.{looks_put, none_below, one_below, same_then}
use Rattle.ready_work.proofs.startable_tasks.StartableTasks.put_locks.Goals as goal

pub loop-lock-init : goal.loop-lock-init
loop-lock-init c = (
  c.requires.closed.locks,
  c.requires.closed.room,
  record { room = refl; members = λ k. refl },
  none_below (IsFree c.args.graph.now c.args.state.now) c.args.self.now.free c.requires.closed.closed,
)

pub loop-lock-preserved : goal.loop-lock-preserved
loop-lock-preserved c =
    let within : c.loop-lock.lock < c.args.graph.now.locks = omega (arith, c.loop-lock-test.true, c.locks-lock-end.ensures) in (
      c.put_lock.ensures.locks ∙ c.loop-lock.invariant.0,
      omega (arith, c.put_lock.ensures.room, c.loop-lock.invariant.1),
      same_then c.args.self.now.tasks c.loop-lock.self.tasks c.put_lock.new.self.tasks c.loop-lock.invariant.2 c.put_lock.ensures.tasks,
      one_below (IsFree c.args.graph.now c.args.state.now) c.loop-lock.lock c.loop-lock.self.free c.put_lock.new.self.free
          (looks_put (IsFree c.args.graph.now c.args.state.now) c.loop-lock.lock c.is_free.result c.loop-lock.self.free c.put_lock.new.self.free c.put_lock.ensures.room c.put_lock.ensures.put c.put_lock.ensures.others
          (λ b. record { within = within; free = c.is_free.ensures.0 b }, λ q. c.is_free.ensures.1 q.free))
          c.loop-lock.invariant.3,
    )
