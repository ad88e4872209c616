use Rattle.std.proofs.Common.{refl, sym, subst, ap, ◌∙◌, arith}
use Rattle.ready_work.specs.Lowest.{IsLowest, IsNone}
use Rattle.ready_work.specs.NumberSetView.{has}
use Rattle.ready_work.specs.StartableTasksView.{StartableTasksView, IsWith}
use Rattle.ready_work.specs.StartableTasks.{tasks_at}
use Rattle.ready_work.proofs.Heads.{after_lock, puts_lowest, puts_none, room_locks, stands_in}
use Rattle.ready_work.proofs.Sets.{has_where, room_where, same_where}
use Rattle.ready_work.proofs.startable_tasks.StartableTasks.put_lock.Goals as goal

pub put-requires : goal.put-requires
put-requires c = omega (arith, c.requires, room_locks c.self.inside c.args.self.now c.self.view_is, c.self.invariant.free_room)

pub put-requires-in-Some : goal.put-requires-in-Some
put-requires-in-Some c =
    let low : IsLowest (IsWith c.self.inside.order.locks (tasks_at c.self.inside.order.locks c.self.inside.places) c.args.lock) c.in-Some.task = subst (λ (all : StartableTasksView). IsLowest (IsWith all.locks all.tasks c.args.lock) c.in-Some.task) (sym c.self.view_is) c.in-Some.ensures.some in
    let within = (stands_in c.self.inside.order.locks c.self.inside.places c.in-Some.task low.is.is).within in
    omega (arith, within, c.self.invariant.heads_room)

pub invariant_of-self : goal.invariant_of-self
invariant_of-self c =
    let low : IsLowest (IsWith c.self.inside.order.locks (tasks_at c.self.inside.order.locks c.self.inside.places) c.args.lock) c.in-Some.task = subst (λ (all : StartableTasksView). IsLowest (IsWith all.locks all.tasks c.args.lock) c.in-Some.task) (sym c.self.view_is) c.in-Some.ensures.some in
    after_lock c.self.inside c.put.new.self c.put-in-Some.new.self c.args.lock c.args.is_free c.self.invariant (omega (arith, c.requires, room_locks c.self.inside c.args.self.now c.self.view_is)) c.put.ensures.room c.put.ensures.put c.put.ensures.others c.put-in-Some.ensures.room
    (puts_lowest c.self.inside.order.locks (tasks_at c.self.inside.order.locks c.self.inside.places) c.args.lock c.args.is_free c.self.inside.heads c.put-in-Some.new.self c.in-Some.task low c.put-in-Some.ensures.put c.put-in-Some.ensures.others)

pub invariant_of-self-in_default : goal.invariant_of-self-in_default
invariant_of-self-in_default c =
    let none : IsNone (IsWith c.self.inside.order.locks (tasks_at c.self.inside.order.locks c.self.inside.places) c.args.lock) = subst (λ (all : StartableTasksView). IsNone (IsWith all.locks all.tasks c.args.lock)) (sym c.self.view_is) c.in_default.ensures.none in
    after_lock c.self.inside c.put.new.self c.self.inside.heads c.args.lock c.args.is_free c.self.invariant (omega (arith, c.requires, room_locks c.self.inside c.args.self.now c.self.view_is)) c.put.ensures.room c.put.ensures.put c.put.ensures.others refl
    (puts_none c.self.inside.order.locks (tasks_at c.self.inside.order.locks c.self.inside.places) c.args.lock c.args.is_free c.self.inside.heads none)

pub returns-in-Some-clause-room : goal.returns-in-Some-clause-room
returns-in-Some-clause-room c = room_where (has c.put.new.self) c.self.inside.order.lock_count ∙ sym (room_locks c.self.inside c.args.self.now c.self.view_is)

pub returns-in-Some-clause-put : goal.returns-in-Some-clause-put
returns-in-Some-clause-put c = has_where (has c.put.new.self) c.self.inside.order.lock_count c.args.lock (omega (arith, c.requires, room_locks c.self.inside c.args.self.now c.self.view_is)) ∙ c.put.ensures.put

pub returns-in-Some-clause-others : goal.returns-in-Some-clause-others
returns-in-Some-clause-others c = λ l ne. same_where (has c.self.inside.free) (has c.put.new.self) c.self.inside.order.lock_count c.self.inside.order.lock_count l refl (c.put.ensures.others l ne) ∙ ap (λ (all : StartableTasksView). has all.free l) c.self.view_is

pub returns-in_default-clause-room : goal.returns-in_default-clause-room
returns-in_default-clause-room c = room_where (has c.put.new.self) c.self.inside.order.lock_count ∙ sym (room_locks c.self.inside c.args.self.now c.self.view_is)

pub returns-in_default-clause-put : goal.returns-in_default-clause-put
returns-in_default-clause-put c = has_where (has c.put.new.self) c.self.inside.order.lock_count c.args.lock (omega (arith, c.requires, room_locks c.self.inside c.args.self.now c.self.view_is)) ∙ c.put.ensures.put

pub returns-in_default-clause-others : goal.returns-in_default-clause-others
returns-in_default-clause-others c = λ l ne. same_where (has c.self.inside.free) (has c.put.new.self) c.self.inside.order.lock_count c.self.inside.order.lock_count l refl (c.put.ensures.others l ne) ∙ ap (λ (all : StartableTasksView). has all.free l) c.self.view_is
