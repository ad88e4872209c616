use Rattle.std.proofs.Common.{rules, ◌≡◌, true, false, sym, subst, ap, ◌∙◌, arith}
use Rattle.ready_work.specs.NumberSetView.{NumberSetView, has, room_of}
use Rattle.ready_work.specs.LockOrderView.{lock_at}
use Rattle.ready_work.specs.StartableTasks.{startable_tasks_view}
use Rattle.ready_work.specs.StartableTasksView.{StartableTasksView}
use Rattle.ready_work.proofs.Heads.{room_locks, room_tasks}
use Rattle.ready_work.proofs.Looking.{put_back}
use Rattle.ready_work.proofs.Sets.{has_where}
use Rattle.ready_work.proofs.startable_tasks.StartableTasks.change.Goals as goal

pub lock-lock-requires : goal.lock-lock-requires
lock-lock-requires c = omega (arith, c.requires, room_tasks c.self.inside c.args.self.now c.self.view_is)

pub put_closed-requires-clause-closed : goal.put_closed-requires-clause-closed
put_closed-requires-clause-closed c =
    let closed : c.has.result ≡ false = search rules in
    subst (λ (all : StartableTasksView). has all.free (lock_at all.locks c.args.task) ≡ false) c.self.view_is
    (ap (has (startable_tasks_view c.self.inside).free) (sym c.lock-lock.ensures.value) ∙ has_where (has c.self.inside.free) c.self.inside.order.lock_count c.lock-lock.result c.lock-lock.ensures.in_range ∙ sym c.has.ensures ∙ closed)

pub put_lock-requires : goal.put_lock-requires
put_lock-requires c = omega (arith, c.lock-lock.ensures.in_range, room_locks c.self.inside c.args.self.now c.self.view_is)

pub put_lock-requires-2 : goal.put_lock-requires-2
put_lock-requires-2 c = omega (arith, c.lock-lock.ensures.in_range, room_locks c.self.inside c.args.self.now c.self.view_is, c.put_lock.ensures.room, ap room_of c.put_closed-2.ensures.free)

pub returns : goal.returns
returns c = let taken : c.has.result ≡ true = search rules in record {
  locks = search;
  free = put_back c.args.self.now.free c.put_lock.new.self.free c.put_lock-2.new.self.free c.lock-lock.result
      (ap (λ (all : StartableTasksView). has all.free c.lock-lock.result) (sym c.self.view_is) ∙ has_where (has c.self.inside.free) c.self.inside.order.lock_count c.lock-lock.result c.lock-lock.ensures.in_range ∙ sym c.has.ensures ∙ taken ∙ sym c.put_lock-2.ensures.put)
      c.put_lock.ensures.room c.put_lock.ensures.others
      (c.put_lock-2.ensures.room ∙ ap room_of c.put_closed-2.ensures.free)
      (λ l ne. c.put_lock-2.ensures.others l ne ∙ ap (λ (set : NumberSetView). has set l) c.put_closed-2.ensures.free);
  room = search;
  put = c.put_lock-2.ensures.tasks.members c.args.task ∙ c.put_closed-2.ensures.put;
  others = λ t apart. c.put_lock-2.ensures.tasks.members t ∙ c.put_closed-2.ensures.others t apart ∙ c.put_lock.ensures.tasks.members t;
}
