use Rattle.std.proofs.Common.{◌<◌, ◌+◌, ◌-◌, length, get_or, ap, arith}
use Rattle.resource_lock.specs.StateView.{IsLockOf}
use Rattle.resource_lock.specs.declared.ids.WorkerId.{WorkerId}
use Rattle.lock_transforms.proofs.TakenUp.{all_parked, next_parked, parked_named, parked_read, room_parked, stopped_parked, there_is}
use Rattle.lock_transforms.proofs.kinds.unblocks.take_parked.Goals as goal

pub bounds-parked-count : goal.bounds-parked-count
bounds-parked-count c = there_is c.loop-taken.taken (omega (arith, c.worker.ensures.in_range, ap (λ (w : WorkerId). w.0) c.worker.ensures.value, c.state.ensures.belongs.workers))
    (parked_read c.parked-count.ensures c.state.ensures.value c.worker.ensures.value) (parked_read c.parked.ensures c.state-in-loop-taken.ensures.value c.worker-in-loop-taken.ensures.value) c.loop-taken-test.true c.loop-taken.invariant

pub unpark_lock-requires-clause-in_range : goal.unpark_lock-requires-clause-in_range
unpark_lock-requires-clause-in_range c =
    let within : length c.parked-count.result.now - 1 - c.loop-taken.taken < length c.parked.result.now = there_is c.loop-taken.taken (omega (arith, c.worker.ensures.in_range, ap (λ (w : WorkerId). w.0) c.worker.ensures.value, c.state.ensures.belongs.workers))
    (parked_read c.parked-count.ensures c.state.ensures.value c.worker.ensures.value) (parked_read c.parked.ensures c.state-in-loop-taken.ensures.value c.worker-in-loop-taken.ensures.value) c.loop-taken-test.true c.loop-taken.invariant in
    let named : IsLockOf c.loop-taken.work.state (get_or c.parked.result.now (length c.parked-count.result.now - 1 - c.loop-taken.taken) (record { 0 = 0 })) = parked_named c.loop-taken.work.state c.loop-taken.work.worker c.parked.result.now (length c.parked-count.result.now - 1 - c.loop-taken.taken) _ c.state-in-loop-taken.ensures.good (parked_read c.parked.ensures c.state-in-loop-taken.ensures.value c.worker-in-loop-taken.ensures.value) within in
    named

pub unpark_lock-requires-clause-room : goal.unpark_lock-requires-clause-room
unpark_lock-requires-clause-room c = room_parked c.loop-taken.taken (omega (arith, c.loop-taken-test.true, ap length (parked_read c.parked-count.ensures c.state.ensures.value c.worker.ensures.value))) c.loop-taken.invariant c.requires

pub returns-then-not-unpark_lock : goal.returns-then-not-unpark_lock
returns-then-not-unpark_lock c = stopped_parked (c.loop-taken.taken + 1)
    (next_parked c.loop-taken.taken _ (omega (arith, c.worker.ensures.in_range, ap (λ (w : WorkerId). w.0) c.worker.ensures.value, c.state.ensures.belongs.workers))
    (parked_read c.parked-count.ensures c.state.ensures.value c.worker.ensures.value) (parked_read c.parked.ensures c.state-in-loop-taken.ensures.value c.worker-in-loop-taken.ensures.value) c.loop-taken-test.true c.loop-taken.invariant c.if-not-unpark_lock.ensures)

pub loop-taken-preserved : goal.loop-taken-preserved
loop-taken-preserved c = next_parked c.loop-taken.taken _ (omega (arith, c.worker.ensures.in_range, ap (λ (w : WorkerId). w.0) c.worker.ensures.value, c.state.ensures.belongs.workers))
    (parked_read c.parked-count.ensures c.state.ensures.value c.worker.ensures.value) (parked_read c.parked.ensures c.state-in-loop-taken.ensures.value c.worker-in-loop-taken.ensures.value) c.loop-taken-test.true c.loop-taken.invariant c.if-not-unpark_lock.ensures

pub returns : goal.returns
returns c = all_parked c.loop-taken.taken (omega (arith, c.loop-taken-test.false, ap length (parked_read c.parked-count.ensures c.state.ensures.value c.worker.ensures.value))) c.loop-taken.invariant
