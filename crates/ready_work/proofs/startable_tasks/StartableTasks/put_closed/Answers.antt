use Rattle.std.proofs.Common.{◌≡◌, ◌<◌, false, length, sym, subst, ap, ◌∙◌, arith}
use Rattle.ready_work.specs.LockOrderView.{lock_at, place_of}
use Rattle.ready_work.specs.NumberSetView.{has}
use Rattle.ready_work.specs.StartableTasksView.{StartableTasksView}
use Rattle.ready_work.proofs.Heads.{after_task, member_at, other_tasks, room_tasks}
use Rattle.ready_work.proofs.Sets.{room_where}
use Rattle.ready_work.proofs.startable_tasks.StartableTasks.put_closed.Goals as goal

pub place-requires : goal.place-requires
place-requires c = omega (arith, c.requires.within, room_tasks c.self.inside c.args.self.now c.self.view_is)

pub put-requires : goal.put-requires
put-requires c = omega (arith, c.place.ensures.in_range, c.self.invariant.places_room)

pub invariant_of-self : goal.invariant_of-self
invariant_of-self c =
    let within : c.args.task < length c.self.inside.order.locks = omega (arith, c.requires.within, room_tasks c.self.inside c.args.self.now c.self.view_is) in
    after_task c.self.inside c.put.new.self c.args.task c.self.invariant within
    (subst (λ (all : StartableTasksView). has all.free (lock_at all.locks c.args.task) ≡ false) (sym c.self.view_is) c.requires.closed) c.put.ensures.room
    (λ p ne. c.put.ensures.others p (λ e. ne (e ∙ c.place.ensures.value)))

pub returns-clause-room : goal.returns-clause-room
returns-clause-room c = room_where (λ t. has c.put.new.self (place_of c.self.inside.order.locks t)) (length c.self.inside.order.locks) ∙ sym (room_tasks c.self.inside c.args.self.now c.self.view_is)

pub returns-clause-put : goal.returns-clause-put
returns-clause-put c =
    let within : c.args.task < length c.self.inside.order.locks = omega (arith, c.requires.within, room_tasks c.self.inside c.args.self.now c.self.view_is) in
    member_at c.self.inside.order.locks c.put.new.self c.args.task within ∙ ap (has c.put.new.self) (sym c.place.ensures.value) ∙ c.put.ensures.put

pub returns-clause-others : goal.returns-clause-others
returns-clause-others c = λ t apart.
    let within : c.args.task < length c.self.inside.order.locks = omega (arith, c.requires.within, room_tasks c.self.inside c.args.self.now c.self.view_is) in
    other_tasks c.self.inside.order.locks c.self.inside.places c.put.new.self c.args.task within (λ p ne. c.put.ensures.others p (λ e. ne (e ∙ c.place.ensures.value))) t apart
    ∙ ap (λ (all : StartableTasksView). has all.tasks t) c.self.view_is
