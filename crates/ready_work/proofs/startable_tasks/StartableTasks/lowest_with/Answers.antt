use Rattle.std.proofs.Common.{ℕ, subst, arith}
use Rattle.ready_work.specs.Lowest.{IsFrom, IsLowest, IsNone}
use Rattle.ready_work.specs.LockOrderView.{start_of}
use Rattle.ready_work.specs.NumberSetView.{IsMember}
use Rattle.ready_work.specs.StartableTasksView.{StartableTasksView, IsWith}
use Rattle.ready_work.proofs.Heads.{lowest_there, none_from_start, none_there, room_locks}
use Rattle.ready_work.proofs.Sets.{if_none}
use Rattle.ready_work.proofs.startable_tasks.StartableTasks.lowest_with.Goals as goal

pub start-requires : goal.start-requires
start-requires c = omega (arith, c.requires, room_locks c.self.inside c.args.self.now c.self.view_is)

pub returns-in_err-place-clause-none : goal.returns-in_err-place-clause-none
returns-in_err-place-clause-none c = if_none (IsNone (IsWith c.args.self.now.locks c.args.self.now.tasks c.args.lock)) c.from_residual.result
    (subst (λ (all : StartableTasksView). IsNone (IsWith all.locks all.tasks c.args.lock)) c.self.view_is
    (none_from_start c.self.inside.order.locks c.self.inside.places c.args.lock (subst (λ (n : ℕ). IsNone (IsFrom n (IsMember c.self.inside.places))) c.start.ensures c.in_err-place.ensures.none)))

pub returns-then-lock-clause-none : goal.returns-then-lock-clause-none
returns-then-lock-clause-none c =
    let low : IsLowest (IsFrom (start_of c.self.inside.order.locks c.args.lock) (IsMember c.self.inside.places)) c.in_ok-place.place = subst (λ (n : ℕ). IsLowest (IsFrom n (IsMember c.self.inside.places)) c.in_ok-place.place) c.start.ensures c.in_ok-place.ensures.some in
    subst (λ (all : StartableTasksView). IsNone (IsWith all.locks all.tasks c.args.lock)) c.self.view_is
    (none_there c.self.inside.order.locks c.self.inside.places c.args.lock c.in_ok-place.place c.task-task.result low c.task-task.ensures.within c.task-task.ensures.value (λ e. let f = c.lock.ensures.value in let ne = c.if-lock.true in absurd (omega (arith, e, f, ne))))

pub returns-clause-some : goal.returns-clause-some
returns-clause-some c =
    let low : IsLowest (IsFrom (start_of c.self.inside.order.locks c.args.lock) (IsMember c.self.inside.places)) c.in_ok-place.place = subst (λ (n : ℕ). IsLowest (IsFrom n (IsMember c.self.inside.places)) c.in_ok-place.place) c.start.ensures c.in_ok-place.ensures.some in
    subst (λ (all : StartableTasksView). IsLowest (IsWith all.locks all.tasks c.args.lock) c.task-task.result) c.self.view_is
    (lowest_there c.self.inside.order.locks c.self.inside.places c.args.lock c.in_ok-place.place c.task-task.result low c.task-task.ensures.within c.task-task.ensures.value (omega (arith, c.lock.ensures.value, c.if-lock.false)))
