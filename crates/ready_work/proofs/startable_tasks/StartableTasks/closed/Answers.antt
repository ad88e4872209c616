use Rattle.std.proofs.Common.{◌≡◌, length, ap, ◌∙◌, arith}
use Rattle.std.proofs.lemmas.List.{length-map}
use Rattle.resource_lock.specs.GraphView.{GraphTaskView}
use Rattle.ready_work.specs.LockOrderView.{place_of}
use Rattle.ready_work.specs.NumberSetView.{has}
use Rattle.ready_work.proofs.Heads.{no_heads}
use Rattle.ready_work.proofs.Sets.{nowhere, room_where}
use Rattle.ready_work.proofs.startable_tasks.StartableTasks.closed.Goals as goal

pub invariant_of-result : goal.invariant_of-result
invariant_of-result c =
    let size : length c.in_ok-order.order.locks ≡ length c.args.graph.now.tasks = ap length c.in_ok-order.ensures.locks ∙ length-map c.args.graph.now.tasks (λ (t : GraphTaskView). t.lock.0) in
    let read = ap length c.tasks.ensures.value in
    let few = c.tasks.ensures.fits.few_tasks in
    let places = c.in_ok-places.ensures.room in
    let free = c.in_ok-free.ensures.room in
    let heads = c.in_ok-heads.ensures.room in
    let locks = c.locks.ensures in
    let count = c.in_ok-order.ensures.count in
    no_heads (record { order = c.in_ok-order.order; places = c.in_ok-places.places; free = c.in_ok-free.free; heads = c.in_ok-heads.heads }) (omega arith) (omega arith) (omega arith) c.in_ok-places.ensures.empty c.in_ok-heads.ensures.empty

pub returns-clause-room : goal.returns-clause-room
returns-clause-room c = omega (arith, room_where (λ t. has c.in_ok-places.places (place_of c.in_ok-order.order.locks t)) (length c.in_ok-order.order.locks), ap length c.in_ok-order.ensures.locks, length-map c.args.graph.now.tasks (λ (t : GraphTaskView). t.lock.0))

pub returns-clause-lock_room : goal.returns-clause-lock_room
returns-clause-lock_room c = omega (arith, room_where (has c.in_ok-free.free) c.in_ok-order.order.lock_count, c.in_ok-order.ensures.count)

pub returns-clause-empty : goal.returns-clause-empty
returns-clause-empty c = nowhere (λ t. has c.in_ok-places.places (place_of c.in_ok-order.order.locks t)) (length c.in_ok-order.order.locks) (λ t. c.in_ok-places.ensures.empty (place_of c.in_ok-order.order.locks t))

pub returns-clause-none_free : goal.returns-clause-none_free
returns-clause-none_free c = nowhere (has c.in_ok-free.free) c.in_ok-order.order.lock_count c.in_ok-free.ensures.empty
